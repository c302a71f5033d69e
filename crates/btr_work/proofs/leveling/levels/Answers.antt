use Rattle.std.proofs.Common.{Vec, Global, ℕ, ◌≡◌, ◌<◌, ◌+◌, ◌≤◌, max, List, [], ◌∷◌, ◌++◌, length, map, take, sym, ap, ◌∙◌, subst, arith, None}
use Rattle.std.proofs.lemmas.List.{take_more, take_all, length-map, length-append}
use Rattle.btr_hist.specs.History.{kinds, spec_of}
use Rattle.btr_hist.proofs.HistoryLemmas.{length-kinds}
use Rattle.btr_work.specs.Levels.{AreGroups, next_level, levels_from}
use Rattle.btr_work.specs.Leveling.{PlacesStream, AreAtMost}
use Rattle.btr_work.proofs.LevelLemmas.{levels-snoc, below-snoc, groups-more}
use Rattle.btr_work.proofs.leveling.levels.Goals as goal

pub loop-stream-preserved : goal.loop-stream-preserved
loop-stream-preserved c =
    let f : Vec ℕ Global → List ℕ = λ v. v.items in
    let i = c.loop-stream.stream in
    let so_far = c.loop-stream.invariant in
    let level = c.next_level-level.result in
    let old = map f c.loop-stream.groups.items in
    let new = map f c.place.new.groups.items in
    let was = length-map c.loop-stream.groups.items f in
    let is = length-map c.place.new.groups.items f in
    let low : level ≤ length old + 1 = omega (arith, c.next_level-level.ensures.top, c.len.ensures, was) in
    let placed : PlacesStream level (length c.loop-stream.found.items) old new = subst (λ n. PlacesStream level n old new) (sym so_far.counted) c.in_ok-place.ensures in
    let pushed = c.in_ok-push.ensures.items in
    let counted : length new ≡ max (length old) level = placed.counted in
    record {
      groups = subst (λ l. AreGroups l new) (sym pushed) (groups-more c.loop-stream.found.items level old new so_far.groups low placed);
      counted = omega (arith, ap (λ l. length l) pushed, length-append c.loop-stream.found.items (level ∷ []), so_far.counted);
      below =
          subst (λ l. AreAtMost l (length c.place.new.groups.items)) (sym pushed)
          (below-snoc c.loop-stream.found.items level (length c.loop-stream.groups.items) (length c.place.new.groups.items) so_far.below (omega (arith, counted, was, is)) (omega (arith, counted, was, is)));
      few = omega (arith, counted, was, is, low, so_far.few);
      found = λ h of.
          let size = c.streams-stream-end.ensures h of in
          let inside : i < length (kinds h) = omega (arith, length-kinds h, size, c.loop-stream-test.true) in
          let kind = c.spec.ensures h of in
          let before = so_far.found h of in
          pushed
          ∙ ap (λ l. l ++ level ∷ []) before
          ∙ ap (λ n. levels_from [] (take i (kinds h)) ++ n ∷ [])
          (c.next_level-level.ensures.level ∙ ap (λ l. next_level l c.spec.result) (c.deref.ensures.value ∙ before) ∙ ap (next_level (levels_from [] (take i (kinds h)))) kind)
          ∙ sym (ap (levels_from []) (take_more (kinds h) i None inside) ∙ levels-snoc [] (take i (kinds h)) (spec_of h i));
    }

pub returns : goal.returns
returns c h of =
    let short = c.streams-stream-end.ensures h of in
    let all = take_all c.loop-stream.stream (kinds h) (omega (arith, length-kinds h, short, c.loop-stream-test.false)) in
    subst (λ l. AreGroups l (map (λ v. v.items) c.loop-stream.groups.items)) (c.loop-stream.invariant.found h of ∙ ap (levels_from []) all) c.loop-stream.invariant.groups
