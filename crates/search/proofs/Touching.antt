-- What a search writes, whatever stands in the memory.
use Rattle.std.proofs.Common.{◌≡◌, ℕ, zero, suc, ◌^◌, ◌<◌, ◌&&◌, List, Some, None, Option, refl, Continue, Break, ControlFlow}
use Rattle.search.proofs.Common.{Link, cell, Small, Writes, added, SLOTS, Pointer, Side, Fore, Hind, Part, Front, VIA, FORE, HIND, searched, table_of}
use Rattle.search.proofs.Common.{marks_of, entered, left_by, turn, Spreading, spread_on, spreading, Going, gone_on, idle, Met, hunt_on, hunted, meeting}
use Rattle.search.proofs.Common.{started, part_of}
use Rattle.memory.proofs.Cells.{small_cell}
use Rattle.memory.proofs.Footprints.{same, on, put, either, after}
use Rattle.memory.proofs.Options.{given_holds}
use Rattle.std.proofs.lemmas.Bool.{cond_both}
use Rattle.memory.proofs.Alone.{writes_added}
use Rattle.chains.specs.Walks.{met}
use Rattle.search.specs.declared.hunt.TheConstants.{TURNS}

abbrev W : List ℕ → List ℕ → Type 0
W m n = Writes searched m n

pub writes_marked : (m n : List ℕ) (d : Side) (q : ℕ) → W m n → W m (added n (marks_of d) q)
writes_marked m n Fore q h = after searched _ _ _ _ refl (writes_added FORE.column n q) h
writes_marked m n Hind q h = after searched _ _ _ _ refl (writes_added HIND.column n q) h

-- from a memory m in which s was small
module _ (m : List ℕ) (d : Side) (w : Part) (s : ℕ) (f : Small m → s < 2 ^ 64) where
  writes_entered : (n : List ℕ) (t : ℕ) → W m n → W m (entered n d w s t)
  unfolding entered
  writes_entered n t h = either _ m _ _ _ (put _ m _ VIA t s refl f (writes_marked m n d _ h)) h

  writes_left : (n : List ℕ) (o : Option Pointer) → W m n → W m (left_by n d w s o)
  writes_left n None h = h
  writes_left n (Some x) h = writes_entered n x.label h

  writes_on : (x : ControlFlow (Option ℕ) ℕ) (g : ℕ) (n : List ℕ) (k : ℕ → Spreading) → W m n → ((p : ℕ) → W m (k p).memory) →
      W m (spread_on x g n k).memory
  writes_on (Break None) g n k h i = h
  writes_on (Break (Some t)) g n k h i = h
  writes_on (Continue p) g n k h i = i p

  writes_spreading : (g : ℕ) (n : List ℕ) (p : ℕ) → W m n → W m (spreading g n d w s p).memory
  unfolding spreading turn
  writes_spreading zero n p h = h
  writes_spreading (suc g) n p h =
      let t = writes_left n (met (table_of d) n p) h in
      writes_on (turn n d w s p).told g _ (λ j. spreading g (turn n d w s p).memory d w s j) t (λ j. writes_spreading g _ j t)

writes_gone : (m : List ℕ) (w : Part) (c : Front) → W m (gone_on m w c).memory
unfolding gone_on
writes_gone m w c =
    given_holds (λ o. Unit) (λ (g : Going). W m g.memory) c.cursor _ _ tt (same searched m)
    (λ p u. writes_spreading m c.side w (cell m SLOTS p) (small_cell m SLOTS p) c.fuel m (cell m SLOTS p) (same searched m))

writes_step : (m : List ℕ) (x : ControlFlow Link Front) (n : List ℕ) (k : Front → Met) → W m n → ((c : Front) → W m (k c).memory) → W m (hunt_on x n k).memory
writes_step m (Break l) n k h i = h
writes_step m (Continue c) n k h i = i c

writes_hunted : (f : ℕ) (m : List ℕ) (w : Part) (c d : Front) → W m (hunted f m w c d).memory
unfolding hunted
writes_hunted zero m w c d = same searched m
writes_hunted (suc f) m w c d =
    cond_both (idle c && idle d) _ _ (λ (x : Met). W m x.memory) (λ _. same searched m)
    (λ _. writes_step m (gone_on m w c).advance _ _ (writes_gone m w c) (λ e. on searched m _ _ (writes_gone m w c) (writes_hunted f _ w d e)))

pub writes_started : (m : List ℕ) (l : Link) → W m (started m l)
writes_started m l = writes_marked m _ Hind _ (writes_marked m m Fore _ (same searched m))

-- whatever stands in the memory, a search changes no other columns
pub writes_meeting : (m : List ℕ) (l : Link) → Writes searched m (meeting m l).memory
unfolding meeting
writes_meeting m l = on searched m _ _ (writes_started m l) (writes_hunted TURNS _ (part_of m l) _ _)

pub entered_wrote : (m : List ℕ) (d : Side) (w : Part) (s t : ℕ) (m' : List ℕ) → s < 2 ^ 64 → m' ≡ entered m d w s t → Writes searched m m'
entered_wrote m d w s t m' f e = rw e (writes_entered m d w s (λ _. f) m t (same searched m))
