use Rattle.std.proofs.Common.{◌≡◌, IfOk, map, rules}
use Rattle.std.specs.Int.{w16, from_le_bytes}
use Rattle.verify.proofs.Numbers.{spelled}
use Rattle.verify.specs.Input.{numbers_of}
use Rattle.verify.proofs.input.decode.Goals as goal

pub returns : goal.returns
returns c =
    let all : IfOk c.collect.result (λ numbers. numbers.items ≡ map (from_le_bytes w16) c.as_chunks.result.0.now) = search rules in
    let same : map (from_le_bytes w16) c.as_chunks.result.0.now ≡ numbers_of c.args.bytes.now = rw c.as_chunks.ensures.front (spelled c.args.bytes.now) in
    rw same at all
