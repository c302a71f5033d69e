-- The frame of the body is written, or it has none.
use Rattle.std.specs.Prelude.{◌≡◌, ℕ, ◌+◌, ◌-◌, ◌++◌, List, [], ◌∷◌, length, take, drop}
use Rattle.std.proofs.Common.{sym, ap, ◌∙◌, arith}
use Rattle.std.proofs.lemmas.List.{append-nil}
use Rattle.btr_follow.specs.declared.frame.Frame.{Frame}
use Rattle.btr_follow.specs.Frames.{frame_bytes}
use Rattle.btr_follow.specs.Shipping.{frame_in, frames_in, bytes_in}
use Rattle.btr_follow.proofs.ShippingLemmas.{on-err, sent-as, none-sent, one-sent, none-bytes, one-bytes, sent-nothing, sent-piece}
use Rattle.btr_follow.proofs.sending.send_body.Given.{Over}
use Rattle.btr_follow.proofs.sending.send_body.Goals.{Then-not-is_entry_from, Else-not-is_entry_from, In_ok-append_frame}
use Rattle.btr_follow.proofs.sending.send_body.Goals as goal

-- no frame is sent
none : (g : Over) (c : Then-not-is_entry_from g) → frames_in c.args.from (c.args.body.now ∷ []) ≡ []
none g c =
    none-sent c.args.from c.args.body.now _ (sent-as c.args.from c.args.body.now c.args.head.now c.requires.body) (sym c.if-not-is_entry_from.true ∙ c.is_entry_from.ensures)

-- one frame is sent
one : (g : Over) (c : Else-not-is_entry_from g) → frames_in c.args.from (c.args.body.now ∷ []) ≡ frame_in c.args.body.now ∷ []
one g c =
    one-sent c.args.from c.args.body.now _ (sent-as c.args.from c.args.body.now c.args.head.now c.requires.body) (sym c.if-not-is_entry_from.false ∙ c.is_entry_from.ensures)

-- the buffer has its bytes
buffered : (g : Over) (c : In_ok-append_frame g) → bytes_in c.args.from (c.args.body.now ∷ []) ≡ c.append_frame.new.out.items
buffered g c =
    let n = c.args.head.now.length in
    let body = c.args.body.now in
    let entry : take (64 + n - 64) (drop 64 body) ≡ take n (drop 64 body) = ap (λ k. take k (drop 64 body)) (omega arith) in
    let frame : List ℕ = frame_bytes (record { number = c.args.head.now.number; bytes = take (64 + n - 64) (drop 64 body) }) in
    let sent : bytes_in c.args.from (body ∷ []) ≡ frame = one-bytes c.args.from body c.args.head.now (take (64 + n - 64) (drop 64 body)) c.requires.body (one g (goal.at.In_ok-append_frame g c).Else-not-is_entry_from) entry in
    let held : c.append_frame.new.out.items ≡ frame = c.in_ok-append_frame.ensures.bytes ∙ ap (λ (l : List ℕ). l ++ frame) c.clear.ensures.items in
    sent ∙ sym held

pub returns-then-not-is_entry_from-clause-counted : goal.returns-then-not-is_entry_from-clause-counted
returns-then-not-is_entry_from-clause-counted g c =
    sym (ap (length {A = Frame}) (none g (goal.at.returns-then-not-is_entry_from-clause-counted g c).Then-not-is_entry_from))

pub returns-then-not-is_entry_from-clause-sent : goal.returns-then-not-is_entry_from-clause-sent
returns-then-not-is_entry_from-clause-sent g c = λ told.
    let before = g.K.Sink.written c.args.sink.now in
    sym (ap (λ (l : List ℕ). before ++ l) (none-bytes c.args.from c.args.body.now (none g (goal.at.returns-then-not-is_entry_from-clause-sent g c).Then-not-is_entry_from)) ∙ append-nil before)

pub returns-in_err-append_frame-clause-part : goal.returns-in_err-append_frame-clause-part
returns-in_err-append_frame-clause-part g c = λ told. on-err c.from_residual.result _ (sent-nothing _ _)

pub returns-in_err-write_all-clause-part : goal.returns-in_err-write_all-clause-part
returns-in_err-write_all-clause-part g c = λ told.
    on-err c.from_residual-in_err-write_all.result _
    (sent-piece (bytes_in c.args.from (c.args.body.now ∷ [])) c.deref.result.now (g.K.Sink.written c.args.sink.now) (g.K.Sink.written c.write_all.new.sink)
    (buffered g (goal.at.returns-in_err-write_all-clause-part g c).In_ok-append_frame ∙ sym c.deref.ensures.value) (c.in_err-write_all.ensures.part told))

pub returns-clause-counted : goal.returns-clause-counted
returns-clause-counted g c = sym (ap (length {A = Frame}) (one g (goal.at.returns-clause-counted g c).Else-not-is_entry_from))

pub returns-clause-sent : goal.returns-clause-sent
returns-clause-sent g c = λ told.
    c.in_ok-write_all.ensures.written told
    ∙ ap (λ (l : List ℕ). g.K.Sink.written c.args.sink.now ++ l) (c.deref.ensures.value ∙ sym (buffered g (goal.at.returns-clause-sent g c).In_ok-append_frame))
