use Rattle.std.specs.Prelude.{◌≡◌, ℕ, List}
use Rattle.std.proofs.Common.{sym, ap, subst, ◌∙◌}
use Rattle.std.proofs.lemmas.Bool.{false≢true}
use Rattle.btr_log.specs.declared.head.Head.{Head}
use Rattle.btr_log.specs.Head.{head_at, head_bytes, IsHead, Spells}
use Rattle.btr_log.proofs.HeadLemmas.{head_at-head_bytes}
use Rattle.btr_log.proofs.head.Head.decode.Goals as goal

-- what is read is the head that the bytes spell
read_back : (bytes : List ℕ) (read head : Head) → read ≡ head_at bytes → Spells bytes head → read ≡ head
read_back bytes read head e spells = e ∙ ap head_at spells.spelling ∙ head_at-head_bytes head spells.is_head

pub returns-then-not-keeps_grammar-clause-none : goal.returns-then-not-keeps_grammar-clause-none
returns-then-not-keeps_grammar-clause-none c none head spells =
    let read = c.read_fields-head.result in
    let is : IsHead read = subst IsHead (sym (read_back c.args.bytes.now read head c.read_fields-head.ensures spells)) spells.is_head in
    false≢true (c.if-not-keeps_grammar.ensures.1 is)

pub returns-else-is_same-clause-none : goal.returns-else-is_same-clause-none
returns-else-is_same-clause-none c none head spells =
    let read = c.read_fields-head.result in
    let e = read_back c.args.bytes.now read head c.read_fields-head.ensures spells in
    false≢true (c.if-is_same.ensures.1 (c.encode.ensures ∙ ap head_bytes e ∙ sym spells.spelling))
