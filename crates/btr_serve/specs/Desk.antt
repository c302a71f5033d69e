-- What the desk at a store did: from one moment of it to a later one, these lines had these replies.
use Rattle.std.specs.Prelude.{◌≡◌, ℕ, List, [], ◌∷◌, ◌++◌, map, Option}
use Rattle.std.specs.Option.{is_some}
use Rattle.btr_disk.specs.declared.disk.Disk.{Ghosts}
use Rattle.btr_text.specs.Text.{text}
use Rattle.btr_text.specs.declared.script.Line.{Line}
use Rattle.btr_text.specs.declared.reply.LineReply.{LineReply}
use Rattle.btr_jobs.specs.Jobs.{IsAt, Goes}
use Rattle.btr_live.specs.Feeds.{waiting_of}
use Rattle.btr_live.specs.Running.{RanTo}
use Rattle.btr_store.specs.Replies.{status_of_replies}
use Rattle.btr_talk.specs.declared.desk.Desk.{Ghosts as DeskGhosts}
use Rattle.btr_serve.specs.declared.store_desk.StoreDesk.{StoreDesk}
use Rattle.btr_serve.specs.Answers.{has_reply, lines_in, answer_text, replies_in}

module _ {D : Type 0} {disk : Ghosts D} where
  -- The second desk is the first one, later: its session went on at the same hall.
  pub record GoesOn (old new : StoreDesk D disk) : Type 0 where
    pub same_hall : new.hall ≡ old.hall
    pub same_batch : new.feeds.batch ≡ old.feeds.batch
    pub own : List ℕ
    pub goes : Goes old.session new.session own

  -- These lines ran from the first desk to the second, and had these replies. The points that wait are those of the second desk, and its
  -- status is the greatest of the replies.
  pub record Ran (begun now : StoreDesk D disk) (lines : List (Option Line)) (replies : List LineReply) : Type 0 where
    pub same_hall : now.hall ≡ begun.hall
    pub same_batch : now.feeds.batch ≡ begun.feeds.batch
    pub ran : RanTo begun.feeds.batch begun.hall begun.session now.session lines replies (waiting_of now.feeds)
    pub status : now.status ≡ status_of_replies replies

  -- From the first desk to the second these pieces of an input were done, in order, and these are the texts of their answers: a reply to
  -- each piece that has one, and else nothing.
  pub record Did (begun now : StoreDesk D disk) (pieces texts : List (List ℕ)) : Type 0 where
    pub answers : List (Option LineReply)
    pub each : map is_some answers ≡ map has_reply pieces
    pub said : texts ≡ map answer_text answers
    pub ran : Ran begun now (lines_in pieces) (replies_in answers)

  -- ---- private promises

  -- One line more ran, with this reply.
  abbrev pub RunsReply : Option Line → LineReply → StoreDesk D disk → StoreDesk D disk → Type 0
  RunsReply line reply old new =
      (begun : StoreDesk D disk) (lines : List (Option Line)) (replies : List LineReply)
      → Ran begun old lines replies → Ran begun new (lines ++ line ∷ []) (replies ++ reply ∷ [])

  -- One line more ran, and this is the text of its reply.
  abbrev pub DoesSaid : Option Line → List ℕ → StoreDesk D disk → StoreDesk D disk → Type 0
  DoesSaid line said old new = (reply : LineReply) × (said ≡ text reply) × RunsReply line reply old new

  -- One line more ran, and there is no text of its reply.
  abbrev pub LosesSaid : Option Line → StoreDesk D disk → StoreDesk D disk → Type 0
  LosesSaid line old new = (reply : LineReply) × RunsReply line reply old new

-- The desk at a store, as a talk sees it.
abbrev pub store_desk : {D : Type 0} (disk : Ghosts D) → DeskGhosts (StoreDesk D disk)
store_desk disk = record {
  is_ready = λ d. IsAt d.hall d.session;
  did = Did;
  goes_on = GoesOn;
}
