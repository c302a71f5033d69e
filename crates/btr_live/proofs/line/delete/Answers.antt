-- The range that was made has the bounds of the line.
use Rattle.btr_hall.specs.Trace.{history_of}
use Rattle.btr_hall.specs.Session.{seen_of}
use Rattle.std.proofs.Common.{◌≡◌, sym, subst, ap, ◌∙◌, [], ◌∷◌, w64, to_z, of_z, ℤ, ℕ, refl, false, true, Option}
use Rattle.std.proofs.lemmas.Int.{to_z-of_z}
use Rattle.btr_base.specs.Range.{RangeValue, IsRange}
use Rattle.btr_hist.specs.declared.entry.Entry.TheVariants.{Commit}
use Rattle.btr_hist.specs.History.{stream_of}
use Rattle.btr_text.specs.declared.reply.Reason.TheVariants as reasons
use Rattle.btr_jobs.proofs.TurnLemmas.{look_at}
use Rattle.btr_live.specs.Meaning.{Commits, delete, on_stream}
use Rattle.btr_live.proofs.DeleteLines.{delete-there, delete-nowhere}
use Rattle.btr_live.proofs.ServeLemmas.{replies_serve, after_look, look_refuses}
use Rattle.btr_live.proofs.line.delete.Goals as goal

range-by : (a b c d : ℤ) → a ≡ c → b ≡ d → (let r : RangeValue = record { from = a; to = b } in r) ≡ record { from = c; to = d }
range-by a b c d e f = cc

pub returns-in-None-clause-at : goal.returns-in-None-clause-at
returns-in-None-clause-at g c =
    look_at c.args.hall.now c.args.session.now c.find.new.self c.find.ensures.looks c.find.ensures.session

pub returns-in-None-clause-serves : goal.returns-in-None-clause-serves
returns-in-None-clause-serves g c =
    look_refuses c.args.hall.now c.args.session.now c.find.new.self _ reasons.Stream
    (look_at c.args.hall.now c.args.session.now c.find.new.self c.find.ensures.looks c.find.ensures.session) c.find.ensures.looks
    (λ h of. sym (ap (λ (o : Option ℕ). on_stream o (λ s. delete s c.args.from c.args.to)) (c.in-None.ensures.found h of)))

pub delete_range-requires-clause-at : goal.delete_range-requires-clause-at
delete_range-requires-clause-at g c κs outlives =
    look_at c.args.hall.now c.args.session.now c.find.new.self c.find.ensures.looks c.find.ensures.session

pub delete_range-requires-clause-found : goal.delete_range-requires-clause-found
delete_range-requires-clause-found g c κs outlives = λ h of. (c.args.id, c.in-Some.ensures.found h of)

pub returns-in-Some-new-clause-serves : goal.returns-in-Some-new-clause-serves
returns-in-Some-new-clause-serves g c =
    let from = c.args.from in
    let to = c.args.to in
    let stream = c.in-Some.found.stream in
    let range = c.in-Some-new.range in
    let whole : RangeValue = record { from = to_z w64 (of_z w64 from); to = to_z w64 (of_z w64 to) } in
    let same : whole ≡ record { from = from; to = to } = range-by _ _ _ _ (to_z-of_z w64 from c.ranges.from) (to_z-of_z w64 to c.ranges.to) in
    let value : range ≡ whole = c.in-Some-new.ensures.value in
    let is_range = subst IsRange same (c.in-Some-new.ensures.some.0 refl) in
    let commits : Commits (Commit stream (range ∷ []) []) ≡ Commits (Commit stream (record { from = from; to = to } ∷ []) []) = ap (λ r. Commits (Commit stream (r ∷ []) [])) (value ∙ same) in
    after_look c.args.hall.now c.args.session.now c.find.new.self c.delete_range.new.session _ c.delete_range.result c.delete_range.ensures.at c.find.ensures.looks
    (replies_serve c.args.hall.now c.find.new.self c.delete_range.new.session _ (Commits (Commit stream (range ∷ []) [])) c.delete_range.result
    (λ h of. commits ∙ sym (delete-there (stream_of (history_of h (seen_of c.find.new.self)) c.args.id) stream from to (c.in-Some.ensures.found h of).0 is_range))
    c.delete_range.ensures.replies)

pub returns-in-None-new-clause-at : goal.returns-in-None-new-clause-at
returns-in-None-new-clause-at g c =
    look_at c.args.hall.now c.args.session.now c.find.new.self c.find.ensures.looks c.find.ensures.session

pub returns-in-None-new-clause-serves : goal.returns-in-None-new-clause-serves
returns-in-None-new-clause-serves g c =
    look_refuses c.args.hall.now c.args.session.now c.find.new.self _ reasons.Range
    (look_at c.args.hall.now c.args.session.now c.find.new.self c.find.ensures.looks c.find.ensures.session) c.find.ensures.looks
    (λ h of.
    let from = c.args.from in
    let to = c.args.to in
    let whole : RangeValue = record { from = to_z w64 (of_z w64 from); to = to_z w64 (of_z w64 to) } in
    let same : whole ≡ record { from = from; to = to } = range-by _ _ _ _ (to_z-of_z w64 from c.ranges.from) (to_z-of_z w64 to c.ranges.to) in
    sym (delete-nowhere (stream_of (history_of h (seen_of c.find.new.self)) c.args.id) c.in-Some.found.stream from to (c.in-Some.ensures.found h of).0
    (subst (λ r. IsRange r → false ≡ true) same c.in-None-new.ensures.some.1)))
