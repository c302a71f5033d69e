use Rattle.std.specs.Prelude.{◌≡◌, ◌+◌, ◌*◌, ◌<◌, ◌^◌, IfSome}
use Rattle.std.proofs.Common.{sym, ap, subst, ◌∙◌, arith}
use Rattle.std.proofs.lemmas.Bool.{false≢true}
use Rattle.btr_log.specs.Head.{content_blocks}
use Rattle.btr_entry.specs.Grammar.{IsEntry}
use Rattle.btr_entry.specs.Format.{format_of}
use Rattle.btr_entry.proofs.SpellingLemmas.{same_entry}
use Rattle.btr_open.specs.Content.{MayHaveNodes}
use Rattle.btr_open.proofs.BodyParts.{between, content-fields, content-format, content-nodes, content-zeros, content-found, content-entry}
use Rattle.btr_open.proofs.StartContent.{if-none}
use Rattle.btr_open.proofs.decoding.decode_extent.Goals as goal

pub returns-then-not-is_entry_head-clause-none : goal.returns-then-not-is_entry_head-clause-none
returns-then-not-is_entry_head-clause-none c e root blocks has =
    let few : c.args.number < 2 ^ 64 = omega arith in
    false≢true (sym c.if-not-is_entry_head.true ∙ c.is_entry_head.ensures.1 (content-fields c.args.number c.args.body.now c.args.head.now c.requires.body c.requires.number few e root blocks has))

pub returns-then-not-are_zeros-clause-none : goal.returns-then-not-are_zeros-clause-none
returns-then-not-are_zeros-clause-none c e root blocks has =
    let few : c.args.number < 2 ^ 64 = omega arith in
    let end : c.blocks_of_content.result * 4096 ≡ 4096 * content_blocks c.args.head.now.length = omega (arith, c.blocks_of_content.ensures) in
    let zeros = content-zeros c.args.number c.args.body.now c.args.head.now c.requires.body c.requires.number few e root blocks has (c.blocks_of_content.result * 4096) end in
    false≢true (sym c.if-not-are_zeros.true ∙ c.are_zeros.ensures.1 zeros)

-- The content spells no entry.
pub returns-in_default-clause-none : goal.returns-in_default-clause-none
returns-in_default-clause-none c e root blocks has =
    let few : c.args.number < 2 ^ 64 = omega arith in
    if-none c.in_ok-entry.field-0 _ c.in_default.not-Some c.in_ok-entry.ensures.none e (content-entry c.args.number c.args.body.now c.args.head.now c.requires.body c.requires.number few e root blocks has)

-- It spells an entry of another format than the head's.
pub returns-then-head-format_of-clause-none : goal.returns-then-head-format_of-clause-none
returns-then-head-format_of-clause-none c e root blocks has =
    let few : c.args.number < 2 ^ 64 = omega arith in
    let body = c.args.body.now in
    let head = c.args.head.now in
    let mine = subst (λ o. IfSome o (IsEntry (between 64 (64 + head.length) body))) c.in-Some.is c.in_ok-entry.ensures.found in
    let its = content-entry c.args.number body head c.requires.body c.requires.number few e root blocks has in
    let same : e ≡ c.in-Some.entry = same_entry e c.in-Some.entry its.is_spelled mine.is_spelled (sym its.bytes_are ∙ mine.bytes_are) in
    c.if-head-format_of.true (content-format c.args.number body head c.requires.body c.requires.number few e root blocks has ∙ ap format_of same ∙ sym c.format_of.ensures.format)

-- It spells a retirement, but the head says that node blocks follow.
pub returns-then-not-may_have_nodes-clause-none : goal.returns-then-not-may_have_nodes-clause-none
returns-then-not-may_have_nodes-clause-none c e root blocks has =
    let few : c.args.number < 2 ^ 64 = omega arith in
    let body = c.args.body.now in
    let head = c.args.head.now in
    let mine = subst (λ o. IfSome o (IsEntry (between 64 (64 + head.length) body))) c.in-Some.is c.in_ok-entry.ensures.found in
    let its = content-entry c.args.number body head c.requires.body c.requires.number few e root blocks has in
    let same : e ≡ c.in-Some.entry = same_entry e c.in-Some.entry its.is_spelled mine.is_spelled (sym its.bytes_are ∙ mine.bytes_are) in
    let nodes = content-nodes c.args.number body head c.requires.body c.requires.number few e root blocks has in
    false≢true (sym c.if-not-may_have_nodes.true ∙ c.may_have_nodes.ensures.1 (subst (λ x. MayHaveNodes x head.nodes) same (subst (MayHaveNodes e) (sym nodes) has.may_have)))

pub returns-clause-found : goal.returns-clause-found
returns-clause-found c =
    let body = c.args.body.now in
    let head = c.args.head.now in
    let end : c.blocks_of_content.result * 4096 ≡ 4096 * content_blocks head.length = omega (arith, c.blocks_of_content.ensures) in
    let mine = subst (λ o. IfSome o (IsEntry (between 64 (64 + head.length) body))) c.in-Some.is c.in_ok-entry.ensures.found in
    content-found c.args.number body head c.requires.body (c.blocks_of_content.result * 4096) end (c.is_entry_head.ensures.0 c.if-not-is_entry_head.false) (c.are_zeros.ensures.0 c.if-not-are_zeros.false) c.in-Some.entry mine (c.if-head-format_of.false ∙ c.format_of.ensures.format) (c.may_have_nodes.ensures.0 c.if-not-may_have_nodes.false)
