use Rattle.std.proofs.Common.{◌+◌, List, ℕ, Ok, refl, sym, ap, subst}
use Rattle.btr_open.specs.Content.{HasContent}
use Rattle.btr_open.specs.Loading.{BreaksEntry}
use Rattle.btr_open.proofs.LoadingLemmas.{IsAllowed, MayLeadRead, wrong-root, wrong-node, tree-past, body-added}
use Rattle.btr_open.proofs.loading.Loader.add_entry.Goals.{After-wrong_root-wrong}
use Rattle.btr_open.proofs.loading.Loader.add_entry.Goals as goal

-- The block where the node blocks begin.
abbrev first : (c : After-wrong_root-wrong) → ℕ
first c = c.args.gate + 1 + c.blocks_of_content-content.result

-- The bytes of the node blocks.
abbrev nodes : (c : After-wrong_root-wrong) → List ℕ
nodes c = c.node_blocks-pages.result.now

-- The entry may follow.
is-allowed : (c : After-wrong_root-wrong) → IsAllowed c.args.gate (first c) (nodes c) c.args.body.now c.args.self.now c.args.head.now c.args.entry.now
is-allowed c =
    let are = c.node_blocks-pages.ensures in
    record {
      whole = c.requires.body;
      content = subst (λ xs. HasContent (c.args.self.now.board.entries + 1) c.args.entry.now c.args.head.now.root xs c.args.body.now) (sym are) c.requires.next.content;
      first_is = ap (λ n. c.args.gate + 1 + n) c.blocks_of_content-content.ensures;
      nodes_are = are;
      allowed = c.requires.next.allowed;
    }

pub returns-in-Some-clause-damaged : goal.returns-in-Some-clause-damaged
returns-in-Some-clause-damaged c =
    let at = (goal.at.returns-in-Some-clause-damaged c).After-wrong_root-wrong in
    let here = wrong-root c.args.gate (first at) (nodes at) c.args.body.now c.args.self.now c.args.head.now c.args.entry.now (is-allowed at) c.in-Some.block c.in-Some.ensures.wrong c.in-Some.ensures.named in
    subst (λ xs. BreaksEntry c.args.gate c.args.body.now xs c.args.entry.now c.args.head.now.root c.args.self.now c.in-Some.block) c.node_blocks-pages.ensures here

pub returns-in-Some-damaged-clause-damaged : goal.returns-in-Some-damaged-clause-damaged
returns-in-Some-damaged-clause-damaged c =
    let at = (goal.at.returns-in-Some-damaged-clause-damaged c).After-wrong_root-wrong in
    let right : MayLeadRead (first at) (nodes at) c.args.self.now c.args.head.now.root c.args.entry.now = λ pages known. c.in_default.ensures.right pages known refl in
    let block = c.in-Some-damaged.block in
    let here = wrong-node c.args.gate (first at) (nodes at) c.args.body.now c.args.self.now c.args.head.now c.args.entry.now (is-allowed at) right c.add_blocks.new.self block (c.in_ok-damaged.ensures.damaged block (ap Ok c.in-Some-damaged.is)) in
    subst (λ xs. BreaksEntry c.args.gate c.args.body.now xs c.args.entry.now c.args.head.now.root c.args.self.now block) c.node_blocks-pages.ensures here

pub add_tree-requires-clause-past : goal.add_tree-requires-clause-past
add_tree-requires-clause-past c =
    let at = (goal.at.add_tree-requires-clause-past c).After-wrong_root-wrong in
    let right : MayLeadRead (first at) (nodes at) c.args.self.now c.args.head.now.root c.args.entry.now = λ pages known. c.in_default.ensures.right pages known refl in
    tree-past c.args.gate (first at) (nodes at) c.args.body.now c.args.self.now c.args.head.now c.args.entry.now (is-allowed at) right c.add_blocks.new.self (c.in_ok-damaged.ensures.added (ap Ok c.in_default-damaged.is)) c.requires.read

pub returns-clause-added : goal.returns-clause-added
returns-clause-added c =
    let at = (goal.at.returns-clause-added c).After-wrong_root-wrong in
    let right : MayLeadRead (first at) (nodes at) c.args.self.now c.args.head.now.root c.args.entry.now = λ pages known. c.in_default.ensures.right pages known refl in
    body-added c.args.gate (first at) (nodes at) c.args.body.now c.args.self.now c.args.head.now c.args.entry.now (is-allowed at) right c.add_blocks.new.self (c.in_ok-damaged.ensures.added (ap Ok c.in_default-damaged.is)) _ c.add_tree.new.self refl refl refl c.requires.next.may c.in_ok-add_tree.ensures c.requires.read c.in_ok-damaged.ensures.above
