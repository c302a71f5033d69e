-- Lemmas on walks from a root: what its call does to the pages' state, and where a root leads by a function from blocks to pages.
use Rattle.std.specs.Prelude.{◌≡◌, ℕ, ℤ, Bool, true, false, cond, nat_eq, List, Option, Some, None, Result, Err, IfErr}
use Rattle.std.specs.Option.{option_and_then}
use Rattle.std.proofs.Common.{suc, refl, ◌∙◌, arith, subst, inl, inr}
use Rattle.std.proofs.lemmas.Bool.Decides.{nat_tests}
use Rattle.std.proofs.lemmas.Option.{same_Some}
use Rattle.std.proofs.lemmas.Result.{IfErr-weaker}
use Rattle.btr_base.specs.declared.limits.TheConstants.{FIRST}
use Rattle.btr_base.specs.declared.point.Point.{Point}
use Rattle.btr_base.specs.Span.{SpanValue}
use Rattle.btr_node.specs.Page.{header}
use Rattle.btr_node.specs.declared.page.NodePage.{NodePage}
use Rattle.btr_tree.specs.declared.fetch.NodeFault.{NodeFault}
use Rattle.btr_tree.specs.declared.spot.Root.{Root}
use Rattle.btr_tree.specs.declared.spot.Spot.{Spot}
use Rattle.btr_tree.specs.declared.walk_fault.WalkFault.{WalkFault}
use Rattle.btr_tree.specs.declared.walk_fault.WalkFault.TheVariants.{Refused}
use Rattle.btr_tree.specs.FetchedLaws.{cause_earlier}
use Rattle.btr_tree.specs.History.{Past}
use Rattle.btr_tree.specs.Leads.{Leads}
use Rattle.btr_tree.specs.NewNodes.{NewNodeValue}
use Rattle.btr_tree.specs.Nodes.{above_root}
use Rattle.btr_tree.specs.PageNodes.{Pages, node_of_page, node_of_stream, Stand}
use Rattle.btr_tree.specs.NodeSource.{UsesSource, IfRefused, AtEachPlace}
use Rattle.btr_tree.specs.Root.{root_part}
use Rattle.btr_tree.specs.Spots.{StandsIn, IsFetchCause, IsRootCause, IsWalkCause, IsSpotAt, IsFetchedAt, IsHarmlessFault, AtEachRoot}
use Rattle.btr_tree.proofs.LeadsLemmas.{leads-along}

module _ {N C : Type 0} (O : Type 0) (contents : N → C) (faults : N → ℕ) (IsPage : C → ℕ → NodePage → Type 0) (root : Root) where
  -- A walk after its root was found.
  pub uses-walk : {A B : Type 0} (a b c : N) (r : Result A NodeFault) (q : Result B NodeFault) → UsesSource contents faults (λ t. IsRootCause O root (λ o. IsPage t)) a b r → UsesSource contents faults (λ t. IsFetchCause O (λ o. IsPage t)) b c q → UsesSource contents faults (λ t. IsWalkCause O root (λ o. IsPage t)) a c q
  uses-walk a b c r q one two =
      let low = one.rises in
      let high = two.rises in
      record {
        same = two.same ∙ one.same;
        rises = omega arith;
        cause = IfErr-weaker q _ _ (λ e h. inr (cause_earlier O (λ o. IsPage (contents a)) (faults a) (faults b) (faults c) e low (subst (λ (t : C). IsFetchCause O (λ o. IsPage t) (faults b) (faults c) e) one.same h))) two.cause;
      }

  -- A walk that may run out of memory, and that the source refused after the root was found.
  pub uses-refused : {A B : Type 0} (a b c : N) (r : Result A NodeFault) (w : WalkFault NodeFault) (e : NodeFault) → w ≡ Refused e → UsesSource contents faults (λ t. IsRootCause O root (λ o. IsPage t)) a b r → UsesSource {A = B} contents faults (λ t m n. IfRefused (IsFetchCause O (λ o. IsPage t) m n)) b c (Err w) → UsesSource {A = B} contents faults (λ t. IsWalkCause O root (λ o. IsPage t)) a c (Err e)
  uses-refused a b c r w e is one two =
      uses-walk a b c r _ one (record { same = two.same; rises = two.rises; cause = subst (IfRefused (IsFetchCause O (λ o. IsPage (contents b)) (faults b) (faults c))) is two.cause })

  -- Its refusal says nothing against the pages of a past whose root this is, if that holds at the root's place for each past.
  pub harmless-refused : (a b : N) (at : Spot) (span : SpanValue) (w : WalkFault NodeFault) (e : NodeFault) (o : O) → w ≡ Refused e → span ≡ root_part → contents b ≡ contents a → AtEachRoot (IsPage (contents a)) root (λ h. IsSpotAt (StandsIn (IsPage (contents a))) at 10 FIRST above_root h) → IfRefused (λ f. AtEachPlace (IsFetchedAt O (λ x. StandsIn (IsPage (contents b)))) at span (λ h. IsHarmlessFault f)) w → AtEachRoot (IsPage (contents a)) root (λ h. IsHarmlessFault e)
  harmless-refused a b at span w e o is whole same there sound h roots =
      subst (IfRefused (λ f. AtEachPlace (IsFetchedAt O (λ x. StandsIn (IsPage (contents b)))) at span (λ h. IsHarmlessFault f))) is sound above_root h (o, rw (whole, same) (there h roots))

  -- A root that was not found.
  pub uses-root : {A B : Type 0} (a b : N) (r : Result A NodeFault) (q : Result B NodeFault) (e : NodeFault) → r ≡ Err e → q ≡ Err e → UsesSource contents faults (λ t. IsRootCause O root (λ o. IsPage t)) a b r → UsesSource contents faults (λ t. IsWalkCause O root (λ o. IsPage t)) a b q
  uses-root a b r q e p p' one =
      record {
        same = one.same;
        rises = one.rises;
        cause = rw p' (inl (subst (λ x. IfErr x (IsRootCause O root (λ o. IsPage (contents a)) (faults a) (faults b))) p one.cause));
      }

-- ---- a function from blocks to pages

stream-page : (has : ℕ → NodePage → Type 0) (stream block : ℕ) (page : NodePage) (node : NewNodeValue) (t : Bool) → nat_eq (header page).stream stream ≡ t → has block page → cond t (Some (node_of_page page)) None ≡ Some node → StandsIn has stream block node
stream-page has stream block page node true e at is =
    record { page = page; is = at; its_stream = grind (arith, nat_tests); says = same_Some (node_of_page page) node is }
stream-page has stream block page node false e at is = absurd (cc)

stands-in : (pages : Pages) (has : ℕ → NodePage → Type 0) (stream block : ℕ) (node : NewNodeValue) (o : Option NodePage) → pages block ≡ o → ((b : ℕ) (p : NodePage) → pages b ≡ Some p → has b p) → option_and_then (node_of_stream stream) o ≡ Some node → StandsIn has stream block node
stands-in pages has stream block node None e along is = absurd (cc)
stands-in pages has stream block node (Some page) e along is =
    stream-page has stream block page node (nat_eq (header page).stream stream) refl (along block page e) is

-- A block that leads to nodes by some pages leads to them where these pages are.
pub leads-in : (pages : Pages) (has : ℕ → NodePage → Type 0) (stream k : ℕ) (s : ℤ) (above : List Point → Bool) (h : Past) (block : ℕ) → ((b : ℕ) (p : NodePage) → pages b ≡ Some p → has b p) → Leads (Stand pages stream) k s above h block → Leads (StandsIn has stream) k s above h block
leads-in pages has stream k s above h block along leads =
    leads-along (Stand pages stream) (StandsIn has stream) (suc block) (λ b n low at. stands-in pages has stream b n (pages b) refl along at) k s above h block (omega arith) leads
