-- What settling writes, whatever stands in the memory.
pub use Rattle.search.proofs.SettleFrames.{settled_writes}
