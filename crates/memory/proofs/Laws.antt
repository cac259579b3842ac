-- The laws that the functions of sets of places name in their contracts, from what their models do.
use Rattle.std.proofs.Common.{◌≡◌, ℕ, Bool, List, Option}
use Rattle.memory.specs.declared.column.Column.{Column}
use Rattle.memory.specs.PlaceSets.{marked, fresh, added, removed, next_up, first_mark, next_down, wiped}
use Rattle.memory.specs.PlaceSetLaws.{Adds, Removes, Wipes, NextUp, NextDown, Firsts}
use Rattle.memory.proofs.Adding.{adding_any, removing}
use Rattle.memory.proofs.Upward.{going_up, first_of_all}
use Rattle.memory.proofs.Downward.{going_down}
use Rattle.memory.proofs.Wiping.{wiping}

pub adds : (m : List ℕ) (c : Column) (p : ℕ) (b : Bool) (m' : List ℕ) → b ≡ fresh m c p → m' ≡ added m c p → Adds m c p b m'
unfolding Adds fresh
adds m c p b m' x y sm = let a = adding_any m c p sm in (rw y a.0, x, λ q. rw y (a.1 q))

pub removes : (m : List ℕ) (c : Column) (p : ℕ) (b : Bool) (m' : List ℕ) → b ≡ marked m c p → m' ≡ removed m c p → Removes m c p b m'
unfolding Removes
removes m c p b m' x y sm = let r = removing m c p sm in (rw y r.0, x, λ q. rw y (r.1 q))

pub wipes : (m : List ℕ) (c : Column) (m' : List ℕ) → m' ≡ wiped m c → Wipes m c m'
unfolding Wipes
wipes m c m' y sm = let r = wiping m c sm in (rw y r.0, λ q. rw y (r.1 q))

pub next_up_is : (m : List ℕ) (c : Column) (p : ℕ) (o : Option ℕ) → o ≡ next_up m c p → NextUp m c p o
unfolding NextUp
next_up_is m c p o e sm = rw e (going_up m c p sm)

pub next_down_is : (m : List ℕ) (c : Column) (p : ℕ) (o : Option ℕ) → o ≡ next_down m c p → NextDown m c p o
unfolding NextDown
next_down_is m c p o e sm = rw e (going_down m c p sm)

pub first_is : (m : List ℕ) (c : Column) (o : Option ℕ) → o ≡ first_mark m c → Firsts m c o
unfolding Firsts
first_is m c o e sm = rw e (first_of_all m c sm)

pub ruleset going = (next_up_is, next_down_is, first_is)
