-- What is written of an answer, if what is told may be passed over.
use Rattle.std.proofs.Common.{◌≡◌, ℕ, ◌≤◌, List, [], length, Ok, Err, Result, refl, arith}
use Rattle.keeper.specs.declared.event.Act.{Act}
use Rattle.keeper.specs.declared.event.Act.TheVariants.{Tells, Shows, Done}
use Rattle.keeper.specs.declared.event.Reason.{Reason}
use Rattle.keeper.specs.declared.event.Telling.{Telling}
use Rattle.keeper.specs.declared.event.Telling.TheVariants.{Written, PassedOver}
use Rattle.keeper.specs.Answers.{written_out}

pub written_none : (w : Telling) (a : Result Act Reason) → written_out w a [] ≡ []
unfolding written_out
written_none Written a = refl
written_none PassedOver (Ok (Tells p n)) = refl
written_none PassedOver (Ok (Shows n)) = refl
written_none PassedOver (Ok Done) = refl
written_none PassedOver (Err e) = refl

pub written_shows : (w : Telling) (n : ℕ) (ks : List ℕ) → written_out w (Ok (Shows n)) ks ≡ ks
unfolding written_out
written_shows Written n ks = refl
written_shows PassedOver n ks = refl

pub written_few : (w : Telling) (a : Result Act Reason) (ks : List ℕ) → length (written_out w a ks) ≤ length ks
unfolding written_out
written_few Written a ks = omega arith
written_few PassedOver (Ok (Tells p n)) ks = omega arith
written_few PassedOver (Ok (Shows n)) ks = omega arith
written_few PassedOver (Ok Done) ks = omega arith
written_few PassedOver (Err e) ks = omega arith

pub ruleset writing = (written_none, written_shows)
