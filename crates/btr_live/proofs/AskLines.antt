-- Lines that are questions: they change nothing.
use Rattle.std.specs.Prelude.{◌≡◌, ℕ, Bool, List, [], Option, None, Some}
use Rattle.std.proofs.Common.{refl, inl, ◌∙◌}
use Rattle.btr_disk.specs.declared.disk.Disk.{Ghosts}
use Rattle.btr_hist.specs.declared.entry.Entry.{Entry}
use Rattle.btr_hist.specs.declared.query.StreamQuery.{StreamQuery}
use Rattle.btr_hist.specs.Query.{of_stream}
use Rattle.btr_text.specs.declared.script.Line.{Line}
use Rattle.btr_text.specs.declared.reply.LineReply.{LineReply}
use Rattle.btr_gate.proofs.PrefixLemmas.{starts_refl}
use Rattle.btr_hall.specs.declared.session.Hall.{Hall}
use Rattle.btr_hall.specs.declared.session.Session.{Session}
use Rattle.btr_hall.specs.Session.{Looks}
use Rattle.btr_jobs.specs.States.{StoreState, LogState, log_seen}
use Rattle.btr_jobs.specs.Jobs.{IsAt}
use Rattle.btr_jobs.proofs.DoesLemmas.{goes_none}
use Rattle.btr_live.specs.Meaning.{Meaning, Commits, Asks, Holds, Current, Refuses, on_stream, meaning}
use Rattle.btr_live.specs.Lanes.{Answers}
use Rattle.btr_live.specs.Feeds.{Waiting, fed}
use Rattle.btr_live.specs.Serving.{Asking, AsksFor, LineAsks, IsAnswerOrNoMemory, Knows, ServesIn}
use Rattle.btr_live.proofs.FeedLines.{plain_line}
use Rattle.btr_live.proofs.ServeLemmas.{after_look, serves_implied}

-- what is asked for is no commit
abbrev pub IsQuestion : Meaning → Type 0
IsQuestion (Commits e) = ⊥
IsQuestion (Asks query) = Unit {0}
IsQuestion (Holds count) = Unit {0}
IsQuestion (Current version) = Unit {0}
IsQuestion (Refuses reason) = Unit {0}

pub asks_question : (found : Option ℕ) (query : StreamQuery) → IsQuestion (on_stream found (λ s. Asks (of_stream query s)))
asks_question None query = tt
asks_question (Some stream) query = tt

question_answers : (start : StoreState) (log : LogState) (saw_failure : Bool) (a : List Entry) (m : Meaning) (reply : LineReply) → IsQuestion m → IsAnswerOrNoMemory a m reply → Answers start log saw_failure a m reply [] a
question_answers start log saw_failure a (Commits e) reply is answer = absurd is
question_answers start log saw_failure a (Asks query) reply is answer = (answer, record { own = refl; next = refl })
question_answers start log saw_failure a (Holds count) reply is answer = (answer, record { own = refl; next = refl })
question_answers start log saw_failure a (Current version) reply is answer = (answer, record { own = refl; next = refl })
question_answers start log saw_failure a (Refuses reason) reply is answer = (answer, record { own = refl; next = refl })

module _ {D : Type 0} {disk : Ghosts D} (hall : Hall D disk) where
  -- A question is answered from what is seen in a look.
  pub look_answers : (old new : Session D disk) (asking : Asking) (reply : LineReply) → IsAt hall new → Looks hall old new → Knows hall new (λ a. (m : Meaning) × asking a m × IsQuestion m × IsAnswerOrNoMemory a m reply) → ServesIn hall old new asking reply
  look_answers old new asking reply at looks answers =
      after_look hall old new new asking reply at looks (
        [],
        goes_none new,
        λ h of.
            let said = answers h of in
            let seen = (log_seen h new).history in record {
              admitted = seen;
              after = starts_refl seen;
              begins = starts_refl seen;
              asked = said.0;
              asks = said.1;
              replies = record { next = seen; answers = question_answers _ _ _ seen said.0 reply said.2 said.3; ends = starts_refl seen };
            },
      )

  -- A line that changes no feed.
  pub plain_serves : (old new : Session D disk) (batch : ℕ) (w : Waiting) (line : Option Line) (asked : List Entry → Meaning) (reply : LineReply) → ((a : List Entry) → fed a w line ≡ None) → ((a : List Entry) → asked a ≡ meaning batch a w line) → ServesIn hall old new (AsksFor asked) reply → ServesIn hall old new (LineAsks batch w line reply w) reply
  plain_serves old new batch w line asked reply none means serves =
      serves_implied hall old new (AsksFor asked) (LineAsks batch w line reply w) reply
      (λ h of a m starts asks. plain_line batch a w line m reply (none a) (inl (asks ∙ means a))) serves
