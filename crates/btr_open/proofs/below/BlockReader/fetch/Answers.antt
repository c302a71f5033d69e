use Rattle.std.specs.Prelude.{MatchOption, IfSome, IsSome}
use Rattle.std.proofs.Common.{sym, ◌∙◌, subst}
use Rattle.btr_pages.specs.Known.{node_at}
use Rattle.btr_open.specs.Below.{HasNoPage, IsStoredPage, BreaksBelow}
use Rattle.btr_open.specs.Loading.{MakesBelow, IsReadPage}
use Rattle.btr_open.proofs.TreesBelow.{adds-none}
use Rattle.btr_open.proofs.MakingBelow.{device-still, made-in, read-still, can-on, some-got}
use Rattle.btr_open.proofs.below.BlockReader.fetch.Goals.{In_ok-make}
use Rattle.btr_open.proofs.below.BlockReader.fetch.Given.{Over}
use Rattle.btr_open.proofs.below.BlockReader.fetch.Goals as goal

pub returns-then-is_some-clause-fetches : goal.returns-then-is_some-clause-fetches
returns-then-is_some-clause-fetches g c reported = record {
  adds = adds-none (g.D.Disk.contents c.args.disk.now) c.args.self.now.limit c.args.nodes.now;
  part = λ pages stand has are. are;
  found = some-got (λ k. k.now) c.get.result (node_at c.args.nodes.now c.args.block) c.get.ensures (sym c.is_some.ensures ∙ c.if-is_some.true);
}

pub returns-in_default-clause-fetches : goal.returns-in_default-clause-fetches
returns-in_default-clause-fetches g c reported =
    let image = g.D.Disk.contents c.args.disk.now in
    record {
      adds = adds-none image c.args.self.now.limit c.args.nodes.now;
      part = λ pages stand has are. are;
      found = subst (λ o. MatchOption o (HasNoPage image c.args.block) (IsStoredPage image c.args.block)) c.in_default.is (c.in_ok-page.ensures.stored reported);
    }

pub make-requires-clause-can : goal.make-requires-clause-can
make-requires-clause-can g c =
    let image = g.D.Disk.contents c.args.disk.now in
    record {
      can = can-on g.D.Disk c.args.self.now c.page.new.self c.args.disk.now c.page.new.disk c.requires.reader c.page.ensures.reads;
      page_read = read-still c.args.block c.args.self.now.limit c.page.new.self.limit c.in-Some.page c.page.ensures.reads.limit (subst (λ o. IfSome o (IsReadPage c.args.block c.args.self.now.limit)) c.in-Some.is c.in_ok-page.ensures.found);
      device = λ reported. device-still g.D.Disk c.args.disk.now c.page.new.disk c.args.self.now c.page.new.self c.args.block c.in-Some.page c.args.nodes.now c.page.ensures.reads reported (record {
        stored = subst (λ o. MatchOption o (HasNoPage image c.args.block) (IsStoredPage image c.args.block)) c.in-Some.is (c.in_ok-page.ensures.stored reported);
        own = c.requires.own reported;
      });
    }

-- What was made, in terms of the first state.
made : (g : Over) (c : In_ok-make g) → g.D.Disk.is_observable → MakesBelow (g.D.Disk.contents c.args.disk.now) c.args.self.now.limit c.args.block c.in-Some.page c.args.nodes.now c.make.new.nodes (IsSome (node_at c.make.new.nodes c.args.block)) c.in_ok-make.field-0
made g c reported =
    made-in g.D.Disk c.args.disk.now c.page.new.disk c.args.self.now c.page.new.self c.args.block c.in-Some.page c.args.nodes.now c.make.new.nodes (IsSome (node_at c.make.new.nodes c.args.block)) c.in_ok-make.field-0 c.page.ensures.reads reported (c.in_ok-make.ensures.makes.made reported)

pub returns-in-None-clause-fetches : goal.returns-in-None-clause-fetches
returns-in-None-clause-fetches g c reported =
    let m = made g (goal.at.returns-in-None-clause-fetches g c).In_ok-make reported in
    record {
      adds = m.adds;
      part = m.part;
      found = subst (λ o. MatchOption o (IsSome (node_at c.make.new.nodes c.args.block)) (BreaksBelow (g.D.Disk.contents c.args.disk.now) c.args.block c.in-Some.page)) c.in-None.is m.found;
    }

pub returns-in-Some-2-clause-fetches : goal.returns-in-Some-2-clause-fetches
returns-in-Some-2-clause-fetches g c reported =
    let image = g.D.Disk.contents c.args.disk.now in
    let m = made g (goal.at.returns-in-Some-2-clause-fetches g c).In_ok-make reported in
    record {
      adds = m.adds;
      part = m.part;
      found = (
        c.in-Some.page,
        subst (λ o. MatchOption o (HasNoPage image c.args.block) (IsStoredPage image c.args.block)) c.in-Some.is (c.in_ok-page.ensures.stored reported),
        subst (λ o. MatchOption o (IsSome (node_at c.make.new.nodes c.args.block)) (BreaksBelow image c.args.block c.in-Some.page)) c.in-Some-2.is m.found,
      );
    }
