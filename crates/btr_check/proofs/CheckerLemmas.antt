-- What a checker has seen, with one entry more.
use Rattle.std.specs.Prelude.{◌≡◌, ℕ, [], ◌∷◌, ◌++◌, length, map}
use Rattle.std.proofs.Common.{sym, ◌∙◌, ap, subst, arith, length-append}
use Rattle.btr_hist.specs.declared.entry.Entry.{Entry}
use Rattle.btr_streams.specs.declared.board.Receipt.{Receipt}
use Rattle.btr_streams.specs.Board.{IsBoardOf}
use Rattle.btr_streams.specs.Stage.{IsReceipt}
use Rattle.btr_open.specs.Seen.{Seen, with_seen}
use Rattle.btr_verify.specs.declared.verifying.Made.{Made}
use Rattle.btr_check.specs.declared.checker.Checker.{Checker}
use Rattle.btr_check.specs.Checkpoints.{mark_of}
use Rattle.btr_check.specs.Checker.{made_by, AreMade, HasSeen}
use Rattle.btr_check.proofs.StagingLemmas.{made-push}

pub seen-more : (seen : Seen) (e : Entry) (root : ℕ) (old new : Checker) (r : Receipt) → HasSeen seen old → IsBoardOf (seen.entries ++ e ∷ []) new.board → IsReceipt seen.entries e r → new.made.items ≡ old.made.items ++ record { stream = r.stream; version = r.version; root = root } ∷ [] → new.checkpoints ≡ old.checkpoints → HasSeen (with_seen seen e root) new
seen-more seen e root old new r was of receipt pushed same =
    let h = seen.entries in
    let its : record { stream = r.stream; version = r.version; root = root } ≡ made_by h e root = λ i. record { stream = receipt.stream i; version = receipt.version i; root = root } in
    let items : old.made.items ++ made_by h e root ∷ [] ≡ new.made.items = sym (pushed ∙ ap (λ (m : Made). old.made.items ++ m ∷ []) its) in
    let counted : length old.made.items ≡ length h = sym old.counted ∙ was.of.entries in
    record {
      of = of;
      rooted = omega (arith, was.rooted, length-append seen.roots (root ∷ []), length-append h (e ∷ []));
      made = subst (AreMade (h ++ e ∷ []) (seen.roots ++ root ∷ [])) items (made-push h seen.roots old.made.items e root counted was.rooted was.made);
      marked = ap (λ c. map mark_of c.items) same ∙ was.marked;
    }
