-- The replies to lines that are answered from a shelf: to one line, and to a list of lines with one line more.
use Rattle.std.specs.Prelude.{◌≡◌, ◌⊎◌, ℕ, ◌≤◌, nat_lt, Bool, true, false, cond, List, [], ◌∷◌, ◌++◌, Option, Some, None}
use Rattle.std.proofs.Common.{refl, sym, ◌∙◌, ap, subst, arith, inl, inr, ⊎_elim}
use Rattle.btr_disk.specs.Causes.{Rose}
use Rattle.btr_hist.specs.declared.entry.Entry.{Entry}
use Rattle.btr_hist.specs.declared.query.Query.{Query}
use Rattle.btr_hist.specs.declared.answer.Answer.{Answer}
use Rattle.btr_hist.specs.declared.answer.Answer.TheVariants as answers
use Rattle.btr_hist.specs.declared.answer.Refusal.{Refusal}
use Rattle.btr_hist.specs.declared.answer.Refusal.TheVariants as refusals
use Rattle.btr_hist.specs.Answer.{answer}
use Rattle.btr_tree.specs.declared.fetch.NodeFault.{NodeFault}
use Rattle.btr_tree.specs.declared.fetch.NodeFault.TheVariants as nodes
use Rattle.btr_tree.specs.Spots.{IsHarmlessFault}
use Rattle.btr_text.specs.declared.script.Line.{Line}
use Rattle.btr_text.specs.declared.script.ScriptLine.{ScriptLine}
use Rattle.btr_text.specs.declared.reply.LineReply.{LineReply}
use Rattle.btr_text.specs.declared.reply.LineReply.TheVariants.{No}
use Rattle.btr_text.specs.declared.reply.Reason.{Reason}
use Rattle.btr_text.specs.declared.reply.Reason.TheVariants as reasons
use Rattle.btr_live.specs.Meaning.{Meaning, Commits, Asks, Holds, Current, Refuses, question}
use Rattle.btr_live.specs.Replies.{model_reply, reply_of_answer}
use Rattle.btr_live.specs.Serving.{IsAnswerOrNoMemory}
use Rattle.btr_open.specs.Shelf.{ShelfValue, HasRollOf, IsPossibleShelfOf, IsShelfOf, IsShelfCause, AtEachShelf, AtEachPossibleShelf}
use Rattle.btr_store.specs.declared.status.Status.{Status}
use Rattle.btr_store.specs.declared.status.Status.TheVariants.{Done, Refused, DeviceFault}
use Rattle.btr_store.specs.Status.{status_rank, status_of_reason, greater}
use Rattle.btr_store.specs.declared.transcript.Transcript.{Transcript}
use Rattle.btr_store.specs.Replies.{IsTranscript, AddsReply, status_of_reply, greatest_of_replies}
use Rattle.btr_top.specs.Cold.{PagesIn, SaysUnfetched, IsShelfReply, AsksQuestion, RepliesCold, EachReplies, IsAnswerOrFailure, IsAnswerOrDamage, HasRepliedCold, AnswersShelf, reason_of_fault}

-- ---- lists of replies

-- Each reply has what follows of it.
pub EachReplies-along : (P Q : Option Line → ℕ → ℕ → LineReply → Type 0) → ((line : Option Line) (from next : ℕ) (reply : LineReply) → P line from next reply → Q line from next reply) → (before after : ℕ) (lines : List ScriptLine) (replies : List LineReply) → EachReplies P before after lines replies → EachReplies Q before after lines replies
EachReplies-along P Q follows before after [] [] each = each
EachReplies-along P Q follows before after [] (r ∷ replies) each = absurd each
EachReplies-along P Q follows before after (l ∷ lines) [] each = absurd each
EachReplies-along P Q follows before after (l ∷ lines) (r ∷ replies) each =
    (each.0, each.1, each.2, each.3, follows l.line each.0 each.1 r each.4, EachReplies-along P Q follows each.1 after lines replies each.5)

-- The counts begin earlier.
pub EachReplies-earlier : (P : Option Line → ℕ → ℕ → LineReply → Type 0) (before start after : ℕ) → before ≤ start → (lines : List ScriptLine) (replies : List LineReply) → EachReplies P start after lines replies → EachReplies P before after lines replies
EachReplies-earlier P before start after later [] [] each = omega (arith, later, each)
EachReplies-earlier P before start after later [] (r ∷ replies) each = absurd each
EachReplies-earlier P before start after later (l ∷ lines) [] each = absurd each
EachReplies-earlier P before start after later (l ∷ lines) (r ∷ replies) each =
    (each.0, each.1, omega (arith, later, each.2), each.3, each.4, each.5)

EachReplies-push : (P : Option Line → ℕ → ℕ → LineReply → Type 0) (before from next : ℕ) → from ≤ next → (lines : List ScriptLine) (replies : List LineReply) (line : ScriptLine) (reply : LineReply) → EachReplies P before from lines replies → P line.line from next reply → EachReplies P before next (lines ++ line ∷ []) (replies ++ reply ∷ [])
EachReplies-push P before from next later [] [] line reply each one = (from, next, each, later, one, omega arith)
EachReplies-push P before from next later [] (r ∷ replies) line reply each one = absurd each
EachReplies-push P before from next later (l ∷ lines) [] line reply each one = absurd each
EachReplies-push P before from next later (l ∷ lines) (r ∷ replies) line reply each one =
    (each.0, each.1, each.2, each.3, each.4, EachReplies-push P each.1 from next later lines replies line reply each.5 one)

-- no line
pub none_replied_cold : (P : Option Line → ℕ → ℕ → LineReply → Type 0) (before : ℕ) (t : Transcript) → IsTranscript [] t → HasRepliedCold P before before [] t
none_replied_cold P before t is = record { replies = []; each = omega arith; is_transcript = is }

-- one line more
pub HasRepliedCold-push : (P : Option Line → ℕ → ℕ → LineReply → Type 0) (before from next : ℕ) → from ≤ next → (lines : List ScriptLine) (line : ScriptLine) (reply : LineReply) (t u : Transcript) → HasRepliedCold P before from lines t → P line.line from next reply → AddsReply reply t u → HasRepliedCold P before next (lines ++ line ∷ []) u
HasRepliedCold-push P before from next later lines line reply t u has one adds = record {
  replies = has.replies ++ reply ∷ [];
  each = EachReplies-push P before from next later lines has.replies line reply has.each one;
  is_transcript = adds has.replies has.is_transcript;
}

-- ---- one reply

plain_refusal : (refusal : Refusal) → status_of_reply (reply_of_answer (answers.Refused refusal)) ≡ Refused
plain_refusal refusals.NoStream = refl
plain_refusal (refusals.NoVersion asked latest) = refl
plain_refusal (refusals.Retired asked first) = refl
plain_refusal refusals.BadRange = refl

plain_answer : (a : Answer) → (status_of_reply (reply_of_answer a) ≡ Done) ⊎ (status_of_reply (reply_of_answer a) ≡ Refused)
plain_answer (answers.Found version rows) = inl refl
plain_answer (answers.Refused refusal) = inr (plain_refusal refusal)

module _ (observable : Type 0) (has : PagesIn observable) (shelf : ShelfValue) where
  -- The shelf's answer.
  pub shelf_answered : (query : Query) (before after : ℕ) (a : Answer) → ((o : observable) → AtEachPossibleShelf (has o) shelf (λ h. a ≡ answer h query)) → (reply : LineReply) → reply ≡ reply_of_answer a → AnswersShelf observable has shelf query before after reply
  shelf_answered query before after a is reply e =
      subst (λ (r : LineReply). AnswersShelf observable has shelf query before after r) (sym e)
      (inl (record { plain = plain_answer a; says = λ o h may. ap (λ x. reply_of_answer x) (is o h may) }))

  -- A node was not fetched.
  pub shelf_unfetched : (query : Query) (before after : ℕ) (fault : NodeFault) → IsShelfCause observable shelf has before after fault → ((o : observable) → AtEachShelf (has o) shelf (λ h. IsHarmlessFault fault)) → (reply : LineReply) → reply ≡ No (reason_of_fault fault) → AnswersShelf observable has shelf query before after reply
  shelf_unfetched query before after fault cause sound reply e = inr (record { fault = fault; says = e; cause = cause; sound = sound })

  -- A line that asks a question has the reply to the question.
  pub line_answered : (line : Option Line) (query : Query) → ((h : List Entry) → HasRollOf h shelf → question h line ≡ Asks query) → (before after : ℕ) (reply : LineReply) → AnswersShelf observable has shelf query before after reply → RepliesCold observable has shelf line before after reply
  line_answered line query asks before after reply replied =
      ⊎_elim
      (λ (is : IsShelfReply observable has shelf (λ h. reply_of_answer (answer h query)) reply). inl (record {
        plain = is.plain;
        says = λ o h may. subst (λ (m : Meaning). reply ≡ model_reply h m) (sym (asks h may.rolled)) (is.says o h may);
      }))
      (λ un. inr ((λ h of. (query, asks h of)), un))
      replied

  -- A line that asks for nothing that can be done.
  pub line_refused : (line : Option Line) (reason : Reason) → ((h : List Entry) → HasRollOf h shelf → question h line ≡ Refuses reason) → status_of_reply (No reason) ≡ Refused → (before after : ℕ) → RepliesCold observable has shelf line before after (No reason)
  line_refused line reason refuses plain before after = inl (record {
    plain = inr plain;
    says = λ o h may. sym (ap (λ (m : Meaning). model_reply h m) (refuses h may.rolled));
  })

  -- ---- a fault

  failed_rose : (before after : ℕ) → IsShelfCause observable shelf has before after nodes.Failed → Rose before after
  failed_rose before after cause =
      elim cause [
        | inl other ↦ absurd (cc)
        | inr walk ↦ elim walk.3 [ inl root ↦ root | inr fetch ↦ fetch ]
      ]

  fault_rose : (before after : ℕ) (fault : NodeFault) → IsShelfCause observable shelf has before after fault → status_of_reason (reason_of_fault fault) ≡ DeviceFault → Rose before after
  fault_rose before after nodes.Failed cause is = failed_rose before after cause
  fault_rose before after (nodes.Damaged block) cause is = absurd (cc)
  fault_rose before after nodes.Want cause is = absurd (cc)

  apart : (a b : Status) → a ≡ b → (b ≡ DeviceFault → ⊥) → a ≡ DeviceFault → ⊥
  apart a b same other is = other (sym same ∙ is)

  -- A reply asks for the status of a failed device only if the count of faults rose.
  reply_rose : (line : Option Line) (before after : ℕ) (reply : LineReply) → RepliesCold observable has shelf line before after reply → status_of_reply reply ≡ DeviceFault → Rose before after
  reply_rose line before after reply replied failed =
      ⊎_elim
      (λ (is : IsShelfReply observable has shelf (λ k. model_reply k (question k line)) reply).
      ⊎_elim
      (λ done. absurd (apart (status_of_reply reply) Done done (λ e. cc) failed))
      (λ no. absurd (apart (status_of_reply reply) Refused no (λ e. cc) failed))
      is.plain)
      (λ (un : AsksQuestion observable has shelf line × SaysUnfetched observable has shelf before after reply).
      fault_rose before after un.1.fault un.1.cause (sym (ap (λ r. status_of_reply r) un.1.says) ∙ failed))
      replied

  greater_is : (t : Bool) (a b : Status) → cond t b a ≡ DeviceFault → (a ≡ DeviceFault) ⊎ (b ≡ DeviceFault)
  greater_is true a b is = inr is
  greater_is false a b is = inl is

  -- So do all replies.
  pub replies_rose : (low before after : ℕ) (s : Status) → low ≤ before → (s ≡ DeviceFault → Rose low before) → (lines : List ScriptLine) (replies : List LineReply) → EachReplies (RepliesCold observable has shelf) before after lines replies → greatest_of_replies s replies ≡ DeviceFault → Rose low after
  replies_rose low before after s lower so [] [] each is = omega (arith, so is, each)
  replies_rose low before after s lower so [] (r ∷ replies) each is = absurd each
  replies_rose low before after s lower so (l ∷ lines) [] each is = absurd each
  replies_rose low before after s lower so (l ∷ lines) (r ∷ replies) each is =
      let from = each.0 in
      let next = each.1 in
      let rose : greater s (status_of_reply r) ≡ DeviceFault → Rose low next = λ e.
      ⊎_elim
      (λ old. omega (arith, so old, each.2, each.3))
      (λ new. omega (arith, reply_rose l.line from next r each.4 new, lower, each.2))
      (greater_is (nat_lt (status_rank s) (status_rank (status_of_reply r))) s (status_of_reply r) e) in
      replies_rose low next after (greater s (status_of_reply r)) (omega (arith, lower, each.2, each.3)) rose lines replies each.5 is

  -- ---- a history whose shelf this is

  module _ (o : observable) (h : List Entry) (line : Option Line) (before after : ℕ) (reply : LineReply) where
    model_is : (m : Meaning) → reply ≡ model_reply h m → IsAnswerOrNoMemory h m reply
    model_is (Commits e) is = is
    model_is (Asks query) is = inl is
    model_is (Holds count) is = is
    model_is (Current version) is = is
    model_is (Refuses reason) is = is

    no_memory : HasRollOf h shelf → AsksQuestion observable has shelf line → reply ≡ No reasons.Memory → IsAnswerOrNoMemory h (question h line) reply
    no_memory of asks is = subst (λ (m : Meaning). IsAnswerOrNoMemory h m reply) (sym (asks h of).1) (inr is)

    -- A fault, though all pages are there.
    fault_told : (fault : NodeFault) → HasRollOf h shelf → AsksQuestion observable has shelf line → reply ≡ No (reason_of_fault fault) → IsShelfCause observable shelf has before after fault → IsHarmlessFault fault → IsAnswerOrFailure h line before after reply
    fault_told nodes.Failed of asks says cause harmless = inr (says, failed_rose before after cause)
    fault_told (nodes.Damaged block) of asks says cause harmless = absurd harmless
    fault_told nodes.Want of asks says cause harmless = inl (no_memory of asks says)

    -- A fault, where any page may be lost.
    fault_found : (fault : NodeFault) → HasRollOf h shelf → AsksQuestion observable has shelf line → reply ≡ No (reason_of_fault fault) → IsShelfCause observable shelf has before after fault → IsAnswerOrDamage h line before after reply
    fault_found nodes.Failed of asks says cause = inl (inr (says, failed_rose before after cause))
    fault_found (nodes.Damaged block) of asks says cause = inr (block, says)
    fault_found nodes.Want of asks says cause = inl (inl (no_memory of asks says))

    -- If the shelf is that of the history, the reply is that of the history, or memory ran out, or the device failed.
    pub reply_told : IsShelfOf (has o) h shelf → RepliesCold observable has shelf line before after reply → IsAnswerOrFailure h line before after reply
    reply_told of replied =
        ⊎_elim
        (λ (is : IsShelfReply observable has shelf (λ k. model_reply k (question k line)) reply). inl (model_is (question h line) (is.says o h of.may)))
        (λ (un : AsksQuestion observable has shelf line × SaysUnfetched observable has shelf before after reply).
        fault_told un.1.fault of.may.rolled un.0 un.1.says un.1.cause (un.1.sound o h of))
        replied

    -- If it may be, then so, or the reply names a damaged block.
    pub reply_found : IsPossibleShelfOf (has o) h shelf → RepliesCold observable has shelf line before after reply → IsAnswerOrDamage h line before after reply
    reply_found may replied =
        ⊎_elim
        (λ (is : IsShelfReply observable has shelf (λ k. model_reply k (question k line)) reply). inl (inl (model_is (question h line) (is.says o h may))))
        (λ (un : AsksQuestion observable has shelf line × SaysUnfetched observable has shelf before after reply).
        fault_found un.1.fault may.rolled un.0 un.1.says un.1.cause)
        replied
