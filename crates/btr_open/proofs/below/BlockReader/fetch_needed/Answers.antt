use Rattle.std.specs.Prelude.{length, ◌+◌, ◌*◌, Some, IfSome}
use Rattle.std.proofs.Common.{◌≡◌, sym, ◌∙◌, subst, arith, inl}
use Rattle.btr_node.specs.Page.{Fits, Spells, slots_of_page}
use Rattle.btr_node.specs.declared.page.NodePage.{NodePage}
use Rattle.btr_pages.specs.Blocks.{block_of_bytes}
use Rattle.btr_open.specs.Loading.{IsBlock, IsSlotChild, IsNeeded}
use Rattle.btr_open.proofs.FetchingBelow.{IsNeededTo, fetched-none, fetched-more, fetched-same, fetched-as, fetches-same, page-one, needed-first, needed-before, needed-here, needed-or, needed-only, needed-all, needed-of}
use Rattle.btr_open.proofs.below.BlockReader.fetch_needed.Goals.{in-Some+in_ok-fetch_children, in_default}
use Rattle.btr_open.proofs.below.BlockReader.fetch_needed.Goals as goal

pub loop-i-init : goal.loop-i-init
loop-i-init g c =
    let disk = g.D.Disk in
    let d = c.args.disk.now in
    let r = c.args.self.now in
    let nodes = c.args.nodes.now in
    let bytes = c.args.bytes.now in
    let none = fetched-none disk d r (λ k. ⊥) nodes (λ reported. g.met.D.Disk.only_now reported d) c.requires.reader c.requires.own (λ k is some lt. is) in
    fetched-more disk d d c.fetch_at.new.disk r r c.fetch_at.new.self (λ k. ⊥) (IsBlock c.args.root) (IsNeededTo 0 bytes c.args.root) nodes nodes c.fetch_at.new.nodes none c.fetch_at.ensures.reads c.in_ok-fetch_at.ensures.grows c.in_ok-fetch_at.ensures.all (λ k is. absurd is) (λ k same. inl same) (needed-first bytes c.args.root)

pub loop-i-preserved : goal.loop-i-preserved
loop-i-preserved g c =
    let l = c.loop-i in
    let n = l.i in
    let disk = g.D.Disk in
    let bytes = c.args.bytes.now in
    let root = c.args.root in
    let now = c.match-decode in
    let only : (page : NodePage) → Fits page → Spells (block_of_bytes bytes n) page → c.decode.result ≡ Some page = λ page fits spells. c.decode.ensures.only page fits (subst (λ b. Spells b page) (sym c.block_at.ensures) spells) in
    elim c.match-decode.branch [
      | in-Some+in_ok-fetch_children w ↦
          let page = w.in-Some.page in
          let is : c.decode.result ≡ Some page = w.in-Some.is in
          let fits = subst (λ o. IfSome o (λ p. Fits p)) is c.decode.ensures.fits in
          let spells = subst (λ b. Spells b page) c.block_at.ensures (subst (λ o. IfSome o (λ p. Spells c.block_at.result.now p)) is c.decode.ensures.found) in
          let one = λ (other : NodePage) (other_fits : Fits other) (other_spells : Spells (block_of_bytes bytes n) other). page-one page other (sym is ∙ only other other_fits other_spells) in
          fetched-as disk c.args.disk.now now.disk w.fetch_children.new.disk c.args.self.now now.self w.fetch_children.new.self (IsNeededTo (n + 1) bytes root) c.args.nodes.now now.nodes w.fetch_children.new.nodes w.self-is w.disk-is w.nodes-is
          (fetched-more disk c.args.disk.now l.disk w.fetch_children.new.disk c.args.self.now l.self w.fetch_children.new.self (IsNeededTo n bytes root) (IsSlotChild (slots_of_page page)) (IsNeededTo (n + 1) bytes root) c.args.nodes.now l.nodes w.fetch_children.new.nodes l.invariant w.fetch_children.ensures.reads w.in_ok-fetch_children.ensures.grows w.in_ok-fetch_children.ensures.all (needed-before n bytes root) (needed-here n bytes root page fits spells) (needed-or n bytes root page one))
      | in_default w ↦
          let none = λ (other : NodePage) (other_fits : Fits other) (other_spells : Spells (block_of_bytes bytes n) other). absurd (let some = only other other_fits other_spells in let is = w.in_default.is in cc) in
          fetched-as disk c.args.disk.now now.disk l.disk c.args.self.now now.self l.self (IsNeededTo (n + 1) bytes root) c.args.nodes.now now.nodes l.nodes w.self-is w.disk-is w.nodes-is
          (fetched-same disk c.args.disk.now l.disk c.args.self.now l.self (IsNeededTo n bytes root) (IsNeededTo (n + 1) bytes root) c.args.nodes.now l.nodes l.invariant (needed-before n bytes root) (needed-only n bytes root none))
    ]

pub returns-clause-all : goal.returns-clause-all
returns-clause-all g c reported =
    let l = c.loop-i in
    let bytes = c.args.bytes.now in
    let root = c.args.root in
    let size : length bytes ≡ 4096 * l.i = omega (arith, c.requires.whole, c.loop-i-test.false, l.auto.i-end) in
    fetches-same (g.D.Disk.contents c.args.disk.now) c.args.self.now.limit (IsNeededTo l.i bytes root) (IsNeeded bytes root) c.args.nodes.now l.nodes (l.invariant.all reported) (needed-of l.i bytes root (omega arith)) (needed-all l.i bytes root (omega arith))
