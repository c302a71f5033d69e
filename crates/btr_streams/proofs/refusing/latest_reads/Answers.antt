use Rattle.std.specs.Prelude.{◌≡◌, length}
use Rattle.std.specs.Option.{unwrap_or}
use Rattle.std.proofs.Common.{sym, ap, ◌∙◌}
use Rattle.btr_hist.specs.History.{nothing_read}
use Rattle.btr_streams.specs.Board.{Versions, read_at}
use Rattle.btr_streams.proofs.RolledOutline.{latest-reads}
use Rattle.btr_streams.proofs.refusing.latest_reads.Goals as goal

pub returns-in-Some : goal.returns-in-Some
returns-in-Some c grown output =
    let kept = c.args.kept.now in
    let count : c.len.result ≡ length kept.reads = c.len.ensures ∙ ap (λ (s : Versions). length s.reads) c.kept.view_is in
    let found = c.read_at.ensures ∙ ap (λ (s : Versions). read_at s.reads c.len.result) c.kept.view_is in
    sym (latest-reads kept c.args.spec.now grown output c.len.result c.read_at.result count found ∙ ap (λ o. unwrap_or o (nothing_read c.args.spec.now)) c.in-Some.is)

pub returns-in-None : goal.returns-in-None
returns-in-None c grown output =
    let kept = c.args.kept.now in
    let count : c.len.result ≡ length kept.reads = c.len.ensures ∙ ap (λ (s : Versions). length s.reads) c.kept.view_is in
    let found = c.read_at.ensures ∙ ap (λ (s : Versions). read_at s.reads c.len.result) c.kept.view_is in
    c.nothing_read.ensures
    ∙ sym (latest-reads kept c.args.spec.now grown output c.len.result c.read_at.result count found ∙ ap (λ o. unwrap_or o (nothing_read c.args.spec.now)) c.in-None.is)
