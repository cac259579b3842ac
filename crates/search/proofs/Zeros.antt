-- In a memory of zeros no seat is marked.
use Rattle.std.proofs.Common.{arith}
use Rattle.memory.specs.declared.column.TheConstants.{MEMORY}
use Rattle.memory.proofs.NoPlaces.{zeros_of}
use Rattle.search.proofs.Common.{FORE, HIND, FreshMemory}

pub fresh_memory : FreshMemory
unfolding FreshMemory
fresh_memory =
    let f = zeros_of MEMORY FORE.column (omega arith) (omega arith) in
    let h = zeros_of MEMORY HIND.column (omega arith) (omega arith) in
    (f.0, h.0, f.1, h.1)
