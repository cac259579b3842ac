-- A board with other names for its cards is the same board.
use Rattle.std.proofs.Common.{[], ◌∷◌, sym}
use Rattle.std.proofs.lemmas.List.{length-map, map-append}
use Rattle.order.specs.Board.{◌⟶◌}
use Rattle.order.specs.Renaming.{named, Renames}
use Rattle.order.proofs.RenamesLists.{has_map, place_map, distinct_map, without_map}
use Rattle.order.proofs.RenamesLinks.{more_known, keeps_map, links_without_map, without_link_map}
use Rattle.order.proofs.RenamesWays.{linked_renamed, leads_renamed, touched_renamed, fine_renamed, refusal_renamed, goes_round_renamed, way_renamed}
use Rattle.order.proofs.RenamesRows.{little_renamed, firm_renamed}

pub renames : Renames
renames f D r n =
    let t = n.tell in
    let c = n.cards in
    let e = n.ends in
    record {
      length_named = length-map r.row f;
      distinct_named = distinct_map f D t r.row c;
      has_named = λ k d. has_map f D t r.row k c d;
      place_named = λ k d. place_map f D t r.row k c d;
      length_links_named = length-map r.links (named f);
      linked_named = linked_renamed f D r n;
      leads_named = leads_renamed f D r n;
      fine_named = fine_renamed f D r n;
      keeps_named = keeps_map f D t r.row r.links c e;
      keeps_other_named = λ row v. keeps_map f D t row r.links v e;
      with_link_named = λ a b. sym (map-append (named f) r.links ((a ⟶ b) ∷ []));
      keeps_with_link_named = λ a b row x y v.
          rw (← map-append (named f) r.links ((a ⟶ b) ∷ [])) (keeps_map f D t row _ v (more_known D r.links a b e x y));
      refusal_named = refusal_renamed f D r n;
      goes_round_named = goes_round_renamed f D r n;
      way_named = way_renamed f D r n;
      backward_named = λ a b x y. rw (place_map f D t r.row a c x, place_map f D t r.row b c y);
      touched_named = touched_renamed f D r n;
      little_named = λ a b row x y v. little_renamed f D r n a b x y row v;
      firm_named = λ a b row x y v. firm_renamed f D r n a b x y row v;
      row_without_named = λ k d. without_map f D t k r.row d c;
      links_without_named = λ k d. links_without_map f D t k r.links d e;
      without_link_named = λ a b x y. without_link_map f D t a b r.links x y e;
    }
