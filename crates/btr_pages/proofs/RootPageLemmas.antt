-- Lemmas on the page of a root, and on the tree that was made of it.
use Rattle.std.specs.Prelude.{◌≡◌, ℕ, ◌≤◌, Some, Result, Ok, Err, IfOk}
use Rattle.std.proofs.Common.{sym, ap, ◌∙◌, subst, arith}
use Rattle.btr_base.specs.Span.{SpanValue, IsSpan}
use Rattle.btr_tree.specs.Leads.{IsRead}
use Rattle.btr_tree.specs.Root.{TreeValue, root_part}
use Rattle.btr_tree.proofs.RootLemmas.{span-whole}
use Rattle.btr_node.specs.Page.{Keeps, span_of_page}
use Rattle.btr_node.specs.declared.page.NodePage.{NodePage}
use Rattle.btr_node.specs.declared.page.NodePage.TheVariants.{Leaf, Inner}
use Rattle.btr_tree.specs.PageNodes.{Pages, nodes_in, IsRootPage}
use Rattle.btr_pages.specs.Pages.{HasRootPage}
use Rattle.btr_pages.specs.Known.{KnownValue, TreesValue, node_at, IsKnown, ArePartOf, IsReadRoot}
use Rattle.btr_pages.specs.Made.{IsKnownRoot}
use Rattle.btr_pages.proofs.KnownLemmas.{block-at, known-at}

-- If a tree was made of the page in a block, it is that of a root exactly if the page is.
pub root-page : (pages : Pages) (nodes : TreesValue) (stream version block : ℕ) (k : KnownValue) → ArePartOf pages nodes → node_at nodes block ≡ Some k → IsKnownRoot stream version k → HasRootPage pages stream version block
root-page pages nodes stream version block k are at root =
    let known = known-at pages nodes block k are at in
    record {
      page = known.page;
      is = ap pages (sym (block-at nodes block k at)) ∙ known.is;
      fits = record {
        height = sym (ap (λ (s : SpanValue). s.height) known.made.span) ∙ root.height;
        its_stream = sym known.made.stream ∙ root.its_stream;
        not_newer = subst (λ v. v ≤ version) known.made.version root.not_newer;
      };
    }

-- The page of the root that is in the block is that of which the tree was made.
root-fits : (pages : Pages) (nodes : TreesValue) (stream version block : ℕ) (k : KnownValue) → (at : node_at nodes block ≡ Some k) → (known : IsKnown pages k) → HasRootPage pages stream version block → IsRootPage stream version known.page
root-fits pages nodes stream version block k at known has =
    let two : Some known.page ≡ Some has.page = sym known.is ∙ ap pages (block-at nodes block k at) ∙ has.is in
    let same : has.page ≡ known.page = cc in
    subst (IsRootPage stream version) same has.fits

pub page-root : (pages : Pages) (nodes : TreesValue) (stream version block : ℕ) (k : KnownValue) → ArePartOf pages nodes → node_at nodes block ≡ Some k → HasRootPage pages stream version block → IsKnownRoot stream version k
page-root pages nodes stream version block k are at has =
    let known = known-at pages nodes block k are at in
    let fits = root-fits pages nodes stream version block k at known has in
    record {
      height = ap (λ (s : SpanValue). s.height) known.made.span ∙ fits.height;
      its_stream = known.made.stream ∙ fits.its_stream;
      not_newer = subst (λ v. v ≤ version) (sym known.made.version) fits.not_newer;
    }

page-aligned : (page : NodePage) → Keeps page → IsSpan (span_of_page page)
page-aligned (Leaf start height stream version count points) keeps = keeps.fields.span
page-aligned (Inner start height stream version count slots) keeps = keeps.fields.span

-- The tree that was made of the page of a root.
root-read : (pages : Pages) (nodes : TreesValue) (stream version block : ℕ) (k : KnownValue) → ArePartOf pages nodes → node_at nodes block ≡ Some k → HasRootPage pages stream version block → IsReadRoot pages stream version block k.tree
root-read pages nodes stream version block k are at has =
    let known = known-at pages nodes block k are at in
    let root = page-root pages nodes stream version block k are at has in
    let fits = root-fits pages nodes stream version block k at known has in
    let high : 10 ≤ (span_of_page known.page).height = subst (λ n. 10 ≤ n) (sym fits.height) (omega arith) in
    let whole : k.tree.span ≡ root_part = known.made.span ∙ span-whole (span_of_page known.page) (page-aligned known.page known.made.keeps) high in
    record {
      its_span = whole;
      its_block = known.made.its_block ∙ block-at nodes block k at;
      not_newer = root.not_newer;
      opened = known.made.opened;
      read =
          subst (λ (s : SpanValue). IsRead (nodes_in pages stream) s.height s.start k.tree.node) whole (subst (λ n. IsRead (nodes_in pages n) k.tree.span.height k.tree.span.start k.tree.node) root.its_stream known.made.read);
    }

-- The tree of a block, shared.
pub shared-root : {E : Type 0} (r : Result TreeValue E) (pages : Pages) (nodes : TreesValue) (stream version block : ℕ) (k : KnownValue) → ArePartOf pages nodes → node_at nodes block ≡ Some k → IfOk r (λ t. t ≡ k.tree) → HasRootPage pages stream version block → IfOk r (IsReadRoot pages stream version block)
shared-root (Err e) pages nodes stream version block k are at is has = tt
shared-root (Ok t) pages nodes stream version block k are at is has =
    subst (IsReadRoot pages stream version block) (sym is) (root-read pages nodes stream version block k are at has)
