-- The search from both ends in turn, as the code goes.
--
--   inside w q         the seat q lies in the part w
--   sees m d w t       the slot t sits in the part, and the other search has come to it
--   entered m d w s t  the memory after the search d came from the slot s to the slot t: t's seat is marked if it lies in the part and the other search
--                      hasn't come to it; if it wasn't marked before, s is noted as the slot that t was come to from
--   Turn               what a turn of a walk tells, and the memory after it: it breaks off at the end of the chain, or with the slot at which the other
--                      search was met; else it goes on at a place
--   turned, left_by    the two, by what the walk's step meets
--   turn m d w s p     a turn of the walk through the chain of the slot s, which stands at the place p
--   Spreading          what going through a chain tells, and the memory after it: it breaks off with the slot at which the other search was met; else
--                      it tells what is left of the fuel
--   spread_on x f m k  what is told after the turn x, with k for the rest of the walk
--   spreading f m d w s p   the walk, from the place p on, in at most f turns
--   Going              what a search tells that goes on from one card, and the memory after it: it breaks off with the link at which it met the other;
--                      else it tells where it stands now
--   advanced c x m p s what it tells that went on from the seat p, where the slot s is, which told x and left the memory m
--   moved c x p s      the two, together
--   gone_on m w c      the search c goes on from the card at its cursor
--   idle c             it has nothing to go on from
--   Met                where two searches met, and the memory after them
--   met_with o m       the two, together
--   hunt_on x m k      what is told after one of them told x and left the memory m, with k for the rest
--   hunted f m w c d   the two searches in turn, c first, at most f turns
--   started m l        the memory with the ends of the link l marked
--   part_of m l        the part between them
--   front d p          the search d at its start, from the seat p
--   meeting m l        the searches from both ends of the link l
use Rattle.std.specs.Prelude.{ℕ, zero, suc, Bool, true, false, cond, not, ◌&&◌, List, Some, None, Option, nat_le}
use Rattle.std.specs.declared.ops.ControlFlow.{ControlFlow}
use Rattle.std.specs.declared.ops.ControlFlow.TheVariants.{Continue, Break}
use Rattle.order.specs.declared.board.Link.{Link}
use Rattle.memory.specs.Columns.{cell, written}
use Rattle.memory.specs.Options.{given}
use Rattle.memory.specs.PlaceSets.{marked, fresh, added}
use Rattle.row.specs.declared.layout.TheConstants.{SLOTS, SEATS}
use Rattle.chains.specs.declared.cells.Pointer.{Pointer}
use Rattle.chains.specs.Tables.{node}
use Rattle.chains.specs.Walks.{met}
use Rattle.search.specs.declared.side.Side.{Side}
use Rattle.search.specs.declared.side.Side.TheVariants.{Fore, Hind}
use Rattle.search.specs.declared.hunt.TheConstants.{FUEL, TURNS}
use Rattle.search.specs.declared.hunt.Part.{Part}
use Rattle.search.specs.declared.hunt.Front.{Front}
use Rattle.search.specs.declared.layout.TheConstants.{VIA, FORE, HIND}
use Rattle.search.specs.Sides.{table_of, marks_of, other, ahead, joined}

abbrev pub inside : Part → ℕ → Bool
inside w q = nat_le w.low q && nat_le q w.high

unfoldable pub sees : List ℕ → Side → Part → ℕ → Bool
sees m d w t = inside w (cell m SEATS t) && marked m (marks_of (other d)) (cell m SEATS t)

unfoldable pub entered : List ℕ → Side → Part → ℕ → ℕ → List ℕ
entered m d w s t =
    cond (inside w (cell m SEATS t) && (not (marked m (marks_of (other d)) (cell m SEATS t)) && fresh m (marks_of d) (cell m SEATS t)))
    (written (added m (marks_of d) (cell m SEATS t)) VIA t s) m

pub record Turn : Type 0 where
  pub told : ControlFlow (Option ℕ) ℕ
  pub memory : List ℕ

abbrev pub turned : List ℕ → Side → Part → Option Pointer → ControlFlow (Option ℕ) ℕ
turned m d w None = Break None
turned m d w (Some x) = cond (sees m d w x.label) (Break (Some x.label)) (Continue (node (table_of d) x.held))

abbrev pub left_by : List ℕ → Side → Part → ℕ → Option Pointer → List ℕ
left_by m d w s None = m
left_by m d w s (Some x) = entered m d w s x.label

unfoldable pub turn : List ℕ → Side → Part → ℕ → ℕ → Turn
turn m d w s p = record { told = turned m d w (met (table_of d) m p); memory = left_by m d w s (met (table_of d) m p) }

pub record Spreading : Type 0 where
  pub spread : ControlFlow ℕ ℕ
  pub memory : List ℕ

abbrev pub spread_on : ControlFlow (Option ℕ) ℕ → ℕ → List ℕ → (ℕ → Spreading) → Spreading
spread_on (Break None) f m k = record { spread = Continue f; memory = m }
spread_on (Break (Some t)) f m k = record { spread = Break t; memory = m }
spread_on (Continue p) f m k = k p

unfoldable pub spreading : ℕ → List ℕ → Side → Part → ℕ → ℕ → Spreading
spreading zero m d w s p = record { spread = Continue 0; memory = m }
spreading (suc f) m d w s p =
    spread_on (turn m d w s p).told f (turn m d w s p).memory (λ q. spreading f (turn m d w s p).memory d w s q)

pub record Going : Type 0 where
  pub advance : ControlFlow Link Front
  pub memory : List ℕ

abbrev pub advanced : Front → ControlFlow ℕ ℕ → List ℕ → ℕ → ℕ → ControlFlow Link Front
advanced c (Break t) m p s = Break (joined c.side s t)
advanced c (Continue f) m p s = Continue (record { side = c.side; cursor = ahead m c.side p; fuel = f })

abbrev pub moved : Front → Spreading → ℕ → ℕ → Going
moved c x p s = record { advance = advanced c x.spread x.memory p s; memory = x.memory }

unfoldable pub gone_on : List ℕ → Part → Front → Going
gone_on m w c =
    given c.cursor (record { advance = Continue c; memory = m })
    (λ p. moved c (spreading c.fuel m c.side w (cell m SLOTS p) (cell m SLOTS p)) p (cell m SLOTS p))

abbrev pub idle : Front → Bool
idle c = given c.cursor true (λ p. false)

pub record Met : Type 0 where
  pub answer : Option Link
  pub memory : List ℕ

abbrev pub met_with : Option Link → List ℕ → Met
met_with o m = record { answer = o; memory = m }

abbrev pub hunt_on : ControlFlow Link Front → List ℕ → (Front → Met) → Met
hunt_on (Break l) m k = met_with (Some l) m
hunt_on (Continue c) m k = k c

unfoldable pub hunted : ℕ → List ℕ → Part → Front → Front → Met
hunted zero m w c d = met_with None m
hunted (suc f) m w c d =
    cond (idle c && idle d) (met_with None m)
    (hunt_on (gone_on m w c).advance (gone_on m w c).memory (λ e. hunted f (gone_on m w c).memory w d e))

abbrev pub started : List ℕ → Link → List ℕ
started m l = added (added m FORE.column (cell m SEATS l.to)) HIND.column (cell m SEATS l.from)

abbrev pub part_of : List ℕ → Link → Part
part_of m l = record { low = cell m SEATS l.to; high = cell m SEATS l.from }

abbrev pub front : Side → ℕ → Front
front d p = record { side = d; cursor = Some p; fuel = FUEL }

unfoldable pub meeting : List ℕ → Link → Met
meeting m l = hunted TURNS (started m l) (part_of m l) (front Fore (cell m SEATS l.to)) (front Hind (cell m SEATS l.from))
