use Rattle.std.specs.Prelude.{◌≡◌, Ok, Some, None, IfSome, MatchOption, IsSome, length, true, false}
use Rattle.std.proofs.Common.{◌<◌, ◌∙◌, refl, sym, ap, subst, arith, inl, inr}
use Rattle.btr_tree.specs.PageNodes.{IsChildPage}
use Rattle.btr_pages.specs.Known.{node_at}
use Rattle.btr_open.specs.Below.{IsStoredPage, HasNoPage}
use Rattle.btr_open.specs.Loading.{GrowsBelow, KnowsChild, MakesBelow, IsReadPage}
use Rattle.btr_open.proofs.TreesBelow.{grows-none}
use Rattle.btr_open.proofs.MakingBelow.{made-none, made-nothing, made-wrong, made-down, made-and, made-more, made-own, made-broken, made-all, made-refused, made-in, grows-in, ok-weaker, slot-there, height-falls, read-still, device-still, none-of, none-got, some-got, can-on}
use Rattle.btr_open.proofs.below.BlockReader.+make.Goals as goal

pub make-make_child-requires : goal.make-make_child-requires
make-make_child-requires g t c κs within =
    let l = c.loop-i in
    let d = c.decreases in (
      omega arith,
      (
        within,
        record {
          below = record {
            can = l.invariant.can;
            page_read = read-still c.args.block c.args.self.now.limit l.self.limit c.args.page.now l.invariant.read.limit c.requires.can.page_read;
            device = λ reported. device-still g.D.Disk c.args.disk.now l.disk c.args.self.now l.self c.args.block c.args.page.now l.nodes l.invariant.read reported (l.invariant.device reported);
          };
          slot = slot-there c.args.page.now c.slots-slot-items.result.now l.i c.slot-item.result c.slots-slot-items.ensures c.loop-i-test.true c.slot-item.is;
        },
      ),
    )

pub make-loop-i-init : goal.make-loop-i-init
make-loop-i-init g t c =
    made-none g.D.Disk c.args.disk.now c.args.self.now c.args.block c.args.page.now c.args.nodes.now (λ reported. g.met.D.Disk.only_now reported c.args.disk.now) c.requires.can.can c.requires.can.device

pub make-returns-then-is_some-clause-makes : goal.make-returns-then-is_some-clause-makes
make-returns-then-is_some-clause-makes g t c =
    let l = c.loop-i in
    let makes = c.in_ok-broken.ensures.makes in
    record {
      grows = made-and g.D.Disk c.args.disk.now l.disk c.args.self.now l.self c.args.block c.args.page.now c.args.nodes.now l.nodes c.make_child.new.nodes l.i l.invariant makes.grows;
      made = λ reported.
          made-broken g.D.Disk c.args.disk.now l.disk c.args.self.now l.self c.args.block c.args.page.now c.args.nodes.now l.nodes c.make_child.new.nodes l.i (KnowsChild c.args.block c.make_child.new.nodes c.slot-item.result) (IsSome (node_at c.make_child.new.nodes c.args.block)) c.in_ok-broken.broken l.invariant reported (makes.made reported) (sym c.is_some.ensures ∙ c.if-is_some.true);
    }

pub make-loop-i-preserved : goal.make-loop-i-preserved
make-loop-i-preserved g t c =
    let l = c.loop-i in
    let makes = c.in_ok-broken.ensures.makes in
    made-more g.D.Disk c.args.disk.now l.disk c.make_child.new.disk c.args.self.now l.self c.make_child.new.self c.args.block c.args.page.now c.slot-item.result c.args.nodes.now l.nodes c.make_child.new.nodes l.i l.invariant c.make_child.ensures.reads c.in_ok-broken.ensures.only makes.grows
    (λ reported. subst (λ o. MakesBelow (g.D.Disk.contents l.disk) l.self.limit c.args.block c.args.page.now l.nodes c.make_child.new.nodes (KnowsChild c.args.block c.make_child.new.nodes c.slot-item.result) o) (none-of c.in_ok-broken.broken (sym c.is_some.ensures ∙ c.if-is_some.false)) (makes.made reported))
    (slot-there c.args.page.now c.slots-slot-items.result.now l.i c.slot-item.result c.slots-slot-items.ensures c.loop-i-test.true c.slot-item.is)

pub make-returns-then-branch-clause-makes : goal.make-returns-then-branch-clause-makes
make-returns-then-branch-clause-makes g t c =
    let l = c.loop-i in
    let added = c.add.ensures.added (c.in_ok-add.was ∙ ap Ok c.if-branch.true) in
    record {
      grows = made-own g.D.Disk c.args.disk.now l.disk c.args.self.now l.self c.args.block c.args.page.now c.args.nodes.now l.nodes c.add.new.self l.i l.invariant c.requires.can.page_read c.requires.fresh added c.add.ensures.only;
      made = made-all g.D.Disk c.args.disk.now l.disk c.args.self.now l.self c.args.block c.args.page.now c.args.nodes.now l.nodes c.add.new.self l.i l.invariant c.requires.can.page_read c.requires.fresh added c.add.ensures.only;
    }

pub make-returns-else-branch-clause-makes : goal.make-returns-else-branch-clause-makes
make-returns-else-branch-clause-makes g t c =
    let l = c.loop-i in
    let limit = c.args.self.now.limit in
    let was = c.args.nodes.now in
    let image = g.D.Disk.contents c.args.disk.now in
    let is = c.in_ok-add.was ∙ ap Ok c.if-branch.false in
    let kept = c.add.ensures.kept (λ e. absurd (let both : Ok true ≡ Ok false = sym e ∙ is in cc)) in
    record {
      grows = subst (GrowsBelow limit was) (sym kept) l.invariant.grows;
      made = λ reported.
          subst (λ xs. MakesBelow image limit c.args.block c.args.page.now was xs (IsSome (node_at xs c.args.block)) (Some c.args.block)) (sym kept)
          (let size = ap length c.slots-slot-items.ensures in
          made-refused g.D.Disk c.args.disk.now l.disk c.args.self.now l.self c.args.block c.args.page.now was l.nodes l.i (IsSome (node_at l.nodes c.args.block)) l.invariant c.requires.can.page_read (omega (arith, c.loop-i-test.false)) (c.add.ensures.refused is) reported);
    }

pub make_child-returns-then-count-eq0-clause-makes : goal.make_child-returns-then-count-eq0-clause-makes
make_child-returns-then-count-eq0-clause-makes g t c =
    let at = c.args.at in
    let slot = at.slot.now in
    record {
      grows = grows-none c.args.self.now.limit c.args.nodes.now;
      made = λ reported.
          made-nothing (g.D.Disk.contents c.args.disk.now) c.args.self.now.limit at.block at.page.now c.args.nodes.now (KnowsChild at.block c.args.nodes.now slot) None (λ some. absurd (omega (arith, c.count.ensures, c.if-count-eq0.true)));
    }

pub make_child-returns-then-at-clause-makes : goal.make_child-returns-then-at-clause-makes
make_child-returns-then-at-clause-makes g t c =
    let at = c.args.at in
    let slot = at.slot.now in
    let some : 0 < slot.agg.count = omega (arith, c.count.ensures, c.if-count-eq0.false) in
    record {
      grows = grows-none c.args.self.now.limit c.args.nodes.now;
      made = λ reported.
          made-wrong (g.D.Disk.contents c.args.disk.now) c.args.self.now.limit at.block at.i at.page.now slot (c.requires.can.below.device reported).stored c.requires.can.slot some c.args.nodes.now (KnowsChild at.block c.args.nodes.now slot) at.block (inl (omega (arith, c.if-at.true), refl));
    }

pub make_child-returns-then-is_some-clause-makes : goal.make_child-returns-then-is_some-clause-makes
make_child-returns-then-is_some-clause-makes g t c =
    let at = c.args.at in
    let slot = at.slot.now in
    record {
      grows = grows-none c.args.self.now.limit c.args.nodes.now;
      made = λ reported.
          made-nothing (g.D.Disk.contents c.args.disk.now) c.args.self.now.limit at.block at.page.now c.args.nodes.now (KnowsChild at.block c.args.nodes.now slot) None
          (λ some. (omega (arith, c.if-at.false), some-got (λ k. k.now) c.get.result (node_at c.args.nodes.now slot.child) c.get.ensures (sym c.is_some.ensures ∙ c.if-is_some.true)));
    }

pub make_child-make_unknown-requires : goal.make_child-make_unknown-requires
make_child-make_unknown-requires g t c κs within =
    let d = c.decreases in
    let slot = c.args.at.slot.now in (
      omega arith,
      (
        within,
        (
          c.requires.can,
          record {
            some = omega (arith, c.count.ensures, c.if-count-eq0.false);
            lower = omega (arith, c.if-at.false);
            fresh = none-got (λ k. k.now) c.get.result (node_at c.args.nodes.now slot.child) c.get.ensures (sym c.is_some.ensures ∙ c.if-is_some.false);
          },
        ),
      ),
    )

pub make_unknown-returns-in_default-clause-makes : goal.make_unknown-returns-in_default-clause-makes
make_unknown-returns-in_default-clause-makes g t c =
    let at = c.args.at in
    let image = g.D.Disk.contents c.args.disk.now in
    let slot = at.slot.now in
    let unknown = c.requires.unknown in
    record {
      grows = grows-none c.args.self.now.limit c.args.nodes.now;
      made = λ reported.
          let none : HasNoPage image slot.child = subst (λ o. MatchOption o (HasNoPage image slot.child) (IsStoredPage image slot.child)) c.in_default.is (c.in_ok-child.ensures.stored reported) in
          made-wrong image c.args.self.now.limit at.block at.i at.page.now slot (c.requires.can.below.device reported).stored c.requires.can.slot unknown.some c.args.nodes.now (KnowsChild at.block c.args.nodes.now slot) slot.child (inr (inl (unknown.lower, none, refl)));
    }

pub make_unknown-returns-then-not-is_child-clause-makes : goal.make_unknown-returns-then-not-is_child-clause-makes
make_unknown-returns-then-not-is_child-clause-makes g t c =
    let at = c.args.at in
    let image = g.D.Disk.contents c.args.disk.now in
    let child = c.in-Some.child in
    let slot = at.slot.now in
    let unknown = c.requires.unknown in
    record {
      grows = grows-none c.args.self.now.limit c.args.nodes.now;
      made = λ reported.
          let stored = subst (λ o. MatchOption o (HasNoPage image slot.child) (IsStoredPage image slot.child)) c.in-Some.is (c.in_ok-child.ensures.stored reported) in
          made-wrong image c.args.self.now.limit at.block at.i at.page.now slot (c.requires.can.below.device reported).stored c.requires.can.slot unknown.some c.args.nodes.now (KnowsChild at.block c.args.nodes.now slot) at.block (inr (inr (unknown.lower, child, stored, (λ fits. absurd (let yes = c.is_child.ensures.1 fits in let no = c.if-not-is_child.true in cc)), refl)));
    }

pub make_unknown-make-requires : goal.make_unknown-make-requires
make_unknown-make-requires g t c κs within =
    let d = c.decreases in
    let at = c.args.at in
    let child = c.in-Some.child in
    let slot = at.slot.now in
    let fits : IsChildPage at.page.now at.i slot child = c.is_child.ensures.0 c.if-not-is_child.false in
    let falls = height-falls at.page.now at.i slot child c.requires.can.below.page_read.keeps c.requires.can.slot fits in (
      omega arith,
      (
        within,
        (
          record {
            can = can-on g.D.Disk c.args.self.now c.page.new.self c.args.disk.now c.page.new.disk c.requires.can.below.can c.page.ensures.reads;
            page_read = read-still slot.child c.args.self.now.limit c.page.new.self.limit child c.page.ensures.reads.limit (subst (λ o. IfSome o (IsReadPage slot.child c.args.self.now.limit)) c.in-Some.is c.in_ok-child.ensures.found);
            device = λ reported. device-still g.D.Disk c.args.disk.now c.page.new.disk c.args.self.now c.page.new.self slot.child child c.args.nodes.now c.page.ensures.reads reported (record {
              stored = subst (λ o. MatchOption o (HasNoPage (g.D.Disk.contents c.args.disk.now) slot.child) (IsStoredPage (g.D.Disk.contents c.args.disk.now) slot.child)) c.in-Some.is (c.in_ok-child.ensures.stored reported);
              own = (c.requires.can.below.device reported).own;
            });
          },
          c.requires.unknown.fresh,
        ),
      ),
    )

pub make_unknown-returns-clause-makes : goal.make_unknown-returns-clause-makes
make_unknown-returns-clause-makes g t c =
    let at = c.args.at in
    let image = g.D.Disk.contents c.args.disk.now in
    let child = c.in-Some.child in
    let slot = at.slot.now in
    let unknown = c.requires.unknown in
    let fits : IsChildPage at.page.now at.i slot child = c.is_child.ensures.0 c.if-not-is_child.false in
    ok-weaker c.make.result (λ o makes. record {
      grows = grows-in g.D.Disk c.args.disk.now c.page.new.disk c.args.self.now c.page.new.self c.args.nodes.now c.make.new.nodes c.page.ensures.reads makes.grows;
      made = λ reported.
          let stored = subst (λ o. MatchOption o (HasNoPage image slot.child) (IsStoredPage image slot.child)) c.in-Some.is (c.in_ok-child.ensures.stored reported) in
          made-down image c.args.self.now.limit at.block at.i at.page.now slot (c.requires.can.below.device reported).stored c.requires.can.slot unknown.some child c.args.nodes.now c.make.new.nodes o c.requires.can.below.page_read.below unknown.lower stored fits (made-in g.D.Disk c.args.disk.now c.page.new.disk c.args.self.now c.page.new.self slot.child child c.args.nodes.now c.make.new.nodes (IsSome (node_at c.make.new.nodes slot.child)) o c.page.ensures.reads reported (makes.made reported));
    }) c.make.ensures.makes
