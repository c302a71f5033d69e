use Rattle.std.proofs.Common.{◌≡◌, ℕ, ◌++◌, List, length, ap, arith, length-append}
use Rattle.std.specs.Int.{w64}
use Rattle.btr_entry.specs.Grammar.{number}
use Rattle.btr_follow.specs.declared.frame.Frame.{Frame}
use Rattle.btr_follow.specs.Frames.{frame_bytes, FrameFits}
use Rattle.btr_follow.proofs.FrameLemmas.{after_four, after_number, number_long}
use Rattle.btr_follow.proofs.reading.read_frame.Goals.{Else-not-is_mark, In_ok-number}
use Rattle.btr_follow.proofs.reading.read_frame.Goals as goal

-- the first number of a frame
numbered : (c : Else-not-is_mark) (f : Frame) (more : List ℕ) → c.args.bytes.now ≡ frame_bytes f ++ more → c.split_at.result.1.now ≡ number w64 f.number ++ (number w64 (length f.bytes) ++ (f.bytes ++ more))
numbered c f more same =
    after_four c.args.bytes.now c.split_at.result.0.now c.split_at.result.1.now (omega (arith, c.if-bytes-lt4.false)) c.split_at.ensures.front c.split_at.ensures.back f more same

-- the second number of a frame
counted : (c : In_ok-number) (f : Frame) (more : List ℕ) → FrameFits f → c.args.bytes.now ≡ frame_bytes f ++ more → c.in_ok-number.rest.now ≡ number w64 (length f.bytes) ++ (f.bytes ++ more)
counted c f more fits same =
    (after_number c.split_at.result.1.now c.in_ok-number.number f.number c.in_ok-number.rest.now (number w64 (length f.bytes) ++ (f.bytes ++ more)) c.in_ok-number.ensures.fits fits.numbered c.in_ok-number.ensures.some (numbered (goal.at.In_ok-number c).Else-not-is_mark f more same)).1

pub returns-in_err-number-clause-none : goal.returns-in_err-number-clause-none
returns-in_err-number-clause-none c =
    rw c.from_residual.ensures (λ f more fits same.
    let is = numbered (goal.at.returns-in_err-number-clause-none c).Else-not-is_mark f more same in
    omega (arith, c.in_err-number.ensures.none, ap (length {A = ℕ}) is, number_long f.number (number w64 (length f.bytes) ++ (f.bytes ++ more))))

pub returns-in_err-length-clause-none : goal.returns-in_err-length-clause-none
returns-in_err-length-clause-none c =
    rw c.from_residual-in_err-length.ensures (λ f more fits same.
    let is = counted (goal.at.returns-in_err-length-clause-none c).In_ok-number f more fits same in
    omega (arith, c.in_err-length.ensures.none, ap (length {A = ℕ}) is, number_long (length f.bytes) (f.bytes ++ more)))

pub returns-then-length-rest-clause-none : goal.returns-then-length-rest-clause-none
returns-then-length-rest-clause-none c f more fits same =
    let is = counted (goal.at.returns-then-length-rest-clause-none c).In_ok-number f more fits same in
    let once = after_number c.in_ok-number.rest.now c.in_ok-length.length (length f.bytes) c.in_ok-length.rest.now (f.bytes ++ more) c.in_ok-length.ensures.fits fits.short c.in_ok-length.ensures.some is in
    omega (arith, once.0, ap (length {A = ℕ}) once.1, length-append f.bytes more, c.if-length-rest.true)
