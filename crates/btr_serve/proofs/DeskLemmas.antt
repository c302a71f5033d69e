-- Lemmas on desks at a store: one line more, and one piece more.
use Rattle.std.specs.Prelude.{◌≡◌, ℕ, List, [], ◌∷◌, ◌++◌, Option, Some, None, Result, OnOk, OnErr}
use Rattle.std.proofs.Common.{refl, sym, ap, ◌∙◌, subst, inr}
use Rattle.std.proofs.lemmas.Result.{on_ok_weaker, on_err_weaker}
use Rattle.btr_disk.specs.declared.disk.Disk.{Ghosts}
use Rattle.btr_text.specs.Text.{text}
use Rattle.btr_text.specs.declared.script.Line.{Line}
use Rattle.btr_text.specs.declared.script.ScriptLine.{ScriptLine}
use Rattle.btr_text.specs.declared.reply.LineReply.{LineReply}
use Rattle.btr_hall.specs.declared.session.Hall.{Hall}
use Rattle.btr_live.specs.Feeds.{waiting_of}
use Rattle.btr_live.specs.Running.{RanTo, RunsNext}
use Rattle.btr_store.specs.declared.status.Status.{Status}
use Rattle.btr_store.specs.Status.{greater}
use Rattle.btr_store.specs.Replies.{status_of_reply}
use Rattle.btr_talk.specs.Done.{DoesLine, MayLoseReply}
use Rattle.btr_serve.specs.declared.store_desk.StoreDesk.{StoreDesk}
use Rattle.btr_serve.specs.Answers.{said_by, lines_in, replies_in}
use Rattle.btr_serve.specs.Desk.{Ran, Did, RunsReply, DoesSaid, LosesSaid}
use Rattle.btr_serve.proofs.AnswerLemmas.{lines_none, lines_some, replies_none, replies_some, each_none, each_some, said_push, status_after}

module _ {D : Type 0} {disk : Ghosts D} where
  -- ---- one line more

  -- What one line more did, with its reply and the status.
  pub runs_reply : (old new : StoreDesk D disk) (line : Option Line) (reply : LineReply) → new.hall ≡ old.hall → new.feeds.batch ≡ old.feeds.batch → RunsNext old.hall old.session new.session old.feeds new.feeds line reply → (asked : Status) → new.status ≡ greater old.status asked → asked ≡ status_of_reply reply → RunsReply line reply old new
  runs_reply old new line reply same_hall same_batch next asked status is = λ begun lines replies ran.
      let now = lines ++ line ∷ [] in
      let said = replies ++ reply ∷ [] in
      let here : RanTo begun.feeds.batch old.hall begun.session old.session lines replies (waiting_of old.feeds) =
      subst (λ (hall : Hall D disk). RanTo begun.feeds.batch hall begun.session old.session lines replies (waiting_of old.feeds)) (sym ran.same_hall) ran.ran in
      let was : RanTo old.feeds.batch old.hall begun.session old.session lines replies (waiting_of old.feeds) =
      subst (λ (n : ℕ). RanTo n old.hall begun.session old.session lines replies (waiting_of old.feeds)) (sym ran.same_batch) here in
      let after : RanTo begun.feeds.batch old.hall begun.session new.session now said (waiting_of new.feeds) =
      subst (λ (n : ℕ). RanTo n old.hall begun.session new.session now said (waiting_of new.feeds)) ran.same_batch (next begun.session lines replies was) in
      record {
        same_hall = same_hall ∙ ran.same_hall;
        same_batch = same_batch ∙ ran.same_batch;
        ran = subst (λ (hall : Hall D disk). RanTo begun.feeds.batch hall begun.session new.session now said (waiting_of new.feeds)) ran.same_hall after;
        status = status_after replies reply old.status new.status ran.status (status ∙ ap (greater old.status) is);
      }

  -- ---- one piece more

  -- The same lines and replies, in other words.
  same_ran : (begun now : StoreDesk D disk) (lines others : List (Option Line)) (replies more : List LineReply) → others ≡ lines → more ≡ replies → Ran begun now lines replies → Ran begun now others more
  same_ran begun now lines others replies more same_lines same_replies ran =
      subst (λ (l : List (Option Line)). Ran begun now l more) (sym same_lines) (subst (λ (r : List LineReply). Ran begun now lines r) (sym same_replies) ran)

  -- A piece that has no reply: nothing was done.
  pub did_none : (begun now : StoreDesk D disk) (pieces texts : List (List ℕ)) (piece : List ℕ) → said_by piece ≡ None → Did begun now pieces texts → Did begun now (pieces ++ piece ∷ []) (texts ++ [] ∷ [])
  did_none begun now pieces texts piece none did = record {
    answers = did.answers ++ None ∷ [];
    each = each_none pieces did.answers piece none did.each;
    said = said_push did.answers texts None [] did.said refl;
    ran = same_ran begun now (lines_in pieces) (lines_in (pieces ++ piece ∷ [])) (replies_in did.answers) (replies_in (did.answers ++ None ∷ []))
        (lines_none pieces piece none) (replies_none did.answers) did.ran;
  }

  -- A piece that says this, and its reply.
  pub did_some : (begun old now : StoreDesk D disk) (pieces texts : List (List ℕ)) (piece : List ℕ) (said : ScriptLine) (reply : LineReply) → said_by piece ≡ Some said → RunsReply said.line reply old now → Did begun old pieces texts → Did begun now (pieces ++ piece ∷ []) (texts ++ text reply ∷ [])
  did_some begun old now pieces texts piece said reply some runs did = record {
    answers = did.answers ++ Some reply ∷ [];
    each = each_some pieces did.answers piece said reply some did.each;
    said = said_push did.answers texts (Some reply) (text reply) did.said refl;
    ran = same_ran begun now (lines_in pieces ++ said.line ∷ []) (lines_in (pieces ++ piece ∷ [])) (replies_in did.answers ++ reply ∷ []) (replies_in (did.answers ++ Some reply ∷ []))
        (lines_some pieces piece said some) (replies_some did.answers reply) (runs begun (lines_in pieces) (replies_in did.answers) did.ran);
  }

-- ---- a result

-- The text of the reply was written.
pub says_reply : {D : Type 0} {disk : Ghosts D} {E : Type 0} (result : Result (Unit {0}) E) (line : Option Line) (reply : LineReply) (old new : StoreDesk D disk) (before after : List ℕ) → before ≡ [] → OnOk result (after ≡ before ++ text reply) → RunsReply line reply old new → OnOk result (DoesSaid line after old new)
says_reply result line reply old new before after empty written runs =
    on_ok_weaker result (λ said. (reply, said ∙ ap (λ (l : List ℕ). l ++ text reply) empty, runs)) written

-- There is no text of the reply.
pub loses_reply : {D : Type 0} {disk : Ghosts D} {E : Type 0} (result : Result (Unit {0}) E) (line : Option Line) (reply : LineReply) (old new : StoreDesk D disk) (P : Type 0) → OnErr result P → RunsReply line reply old new → OnErr result (LosesSaid line old new)
loses_reply result line reply old new P failed runs = on_err_weaker result (λ h. (reply, runs)) failed

-- What a piece says was done, and this is the text of its reply.
pub does_piece : {D : Type 0} {disk : Ghosts D} {E : Type 0} (result : Result (Unit {0}) E) (piece : List ℕ) (said : ScriptLine) (after : List ℕ) (old new : StoreDesk D disk) → said_by piece ≡ Some said → OnOk result (DoesSaid said.line after old new) → OnOk result (DoesLine (Did {D = D} {disk = disk}) piece after old new)
does_piece result piece said after old new some done =
    on_ok_weaker result (λ does. λ begun pieces texts did.
    subst (λ (t : List ℕ). Did begun new (pieces ++ piece ∷ []) (texts ++ t ∷ [])) (sym does.1)
    (did_some begun old new pieces texts piece said does.0 some does.2 did)) done

-- What a piece says was done, and its reply is lost.
pub loses_piece : {D : Type 0} {disk : Ghosts D} {E : Type 0} (result : Result (Unit {0}) E) (piece : List ℕ) (said : ScriptLine) (old new : StoreDesk D disk) → said_by piece ≡ Some said → OnErr result (LosesSaid said.line old new) → OnErr result (MayLoseReply (Did {D = D} {disk = disk}) piece old new)
loses_piece result piece said old new some lost =
    on_err_weaker result (λ loses. λ begun pieces texts did.
    inr (text loses.0, did_some begun old new pieces texts piece said loses.0 some loses.1 did)) lost

-- A piece that has no reply.
pub does_none : {D : Type 0} {disk : Ghosts D} (piece : List ℕ) (after : List ℕ) (desk : StoreDesk D disk) → said_by piece ≡ None → after ≡ [] → DoesLine (Did {D = D} {disk = disk}) piece after desk desk
does_none piece after desk none empty = λ begun pieces texts did.
    subst (λ (t : List ℕ). Did begun desk (pieces ++ piece ∷ []) (texts ++ t ∷ [])) (sym empty)
    (did_none begun desk pieces texts piece none did)
