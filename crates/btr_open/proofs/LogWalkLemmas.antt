-- Lemmas on a walk over a log: what holds of it after calls that only read, after one extent more, and at the closed gate.
use Rattle.std.specs.Prelude.{◌≡◌, ℕ, ◌+◌, ◌*◌, ◌<◌, ◌≤◌, false, List}
use Rattle.std.proofs.Common.{refl, sym, ◌∙◌, subst, arith, inr}
use Rattle.btr_disk.specs.declared.disk.Disk.{Ghosts}
use Rattle.btr_disk.specs.Bytes.{Has}
use Rattle.btr_disk.specs.Gate.{IsOpen, IsClosed}
use Rattle.btr_log.specs.declared.head.Head.{Head}
use Rattle.btr_log.specs.declared.log.Log.{Log}
use Rattle.btr_log.specs.Log.{log_device, log_blocks, KeepsLog}
use Rattle.btr_log.specs.Extents.{need, IsExtent}
use Rattle.btr_log.specs.Piece.{PieceValue, IsPieceOf}
use Rattle.btr_super.specs.declared.superblock.Super.{Super}
use Rattle.btr_super.specs.Super.{has_seal, IsSuper}
use Rattle.btr_open.specs.declared.below.BlockReader.{BlockReader}
use Rattle.btr_open.specs.declared.judge.Judge.{Ghosts as Judging}
use Rattle.btr_open.specs.declared.loading.Loader.{Loader}
use Rattle.btr_open.specs.declared.log_walk.LogWalk.{LogWalk}
use Rattle.btr_open.specs.declared.opening.OpenCause.{OpenCause}
use Rattle.btr_open.specs.declared.place.Place.{Place}
use Rattle.btr_open.specs.Content.{MayHeadStand}
use Rattle.btr_open.specs.Below.{StandBelow}
use Rattle.btr_open.specs.Loading.{IsReaderOf, CanRead, AreOfDevice, ReadsBody, BreaksAfter}
use Rattle.btr_open.specs.LogWalk.{walked_device, IsWalkOver, WalksOn, IsWalked, IsAtEnd, WasWalked, HoldsNext, body_ahead, ReadsExtent, BreaksExtent}
use Rattle.btr_open.specs.Place.{IsPlaceIn, IsPlaceAfter}
use Rattle.btr_open.specs.Reading.{WasReadTo, IsJudgedRead, IsDamagedStoreBy, LogCause, WasStarted, WasJudged, ReadsLog}
use Rattle.btr_log.specs.Reads.{OnlyReads}
use Rattle.btr_open.specs.Seen.{nothing_seen}
use Rattle.btr_open.proofs.NextLemmas.{start-low, read-on, above-damaged, body-damaged}
use Rattle.btr_log.proofs.OnlyReading.{same-bytes}
use Rattle.btr_open.proofs.OnlyReading.{ReadsLog-trans}
use Rattle.btr_open.proofs.OpenCauses.{cause-along, found-extent, found-next}
use Rattle.btr_open.proofs.WholeLemmas.{start-judged}

module _ {D : Type 0} {disk : Ghosts D} where
  -- ---- calls that only read

  -- The device of the log was only read.
  pub log-read : (old new : Log D disk) → KeepsLog old new → OnlyReads disk (log_device old) (log_device new) → ReadsLog old new
  log-read old new kept reads = record {
    kept = record { tail = kept.tail; blocks = kept.blocks; extents = kept.extents; stopped = kept.stopped; faults = kept.faults };
    reads = reads;
  }

  -- What the reader holds is still the device's.
  pub reader-on : (old new : D) (reader : BlockReader) → OnlyReads disk old new → (disk.is_observable → IsReaderOf (disk.contents old) reader) → disk.is_observable → IsReaderOf (disk.contents new) reader
  reader-on old new reader reads holds reported =
      subst (λ i. IsReaderOf i reader) (same-bytes old new reads reported) (holds reported)

  -- The blocks below the checkpoint can be read.
  pub can-read : (w : LogWalk D disk) → IsWalkOver w → CanRead disk w.reader (walked_device w)
  can-read w over =
      let low = start-low (disk.size (walked_device w)) w.found w.found.tail over.table (omega arith) in
      record {
        inside = omega (arith, low, over.limit, over.table.tail_to, over.table.inside);
        addressable = omega (arith, low, over.limit, over.table.tail_to, over.table.blocks_to);
        holds = over.holds;
      }

  -- The walk goes on twice.
  pub walks-trans : (old mid new : LogWalk D disk) → WalksOn old mid → WalksOn mid new → WalksOn old new
  walks-trans old mid new first second = record {
    over = second.over;
    same_super = second.same_super ∙ first.same_super;
    reads = ReadsLog-trans old.log mid.log new.log first.reads second.reads;
  }

  -- The walk with another state.
  abbrev pub walk-with : LogWalk D disk → Log D disk → BlockReader → PieceValue → Loader → Place → LogWalk D disk
  walk-with w log reader piece l p = record { alloc = w.alloc; found = w.found; log = log; reader = reader; piece = piece; loader = l; place = p }

  module _ (w : LogWalk D disk) (over : IsWalkOver w) where
    walks-read : (log : Log D disk) (reader : BlockReader) (piece : PieceValue) (l : Loader) (p : Place) → ReadsLog w.log log → reader.limit ≡ w.reader.limit → (disk.is_observable → IsPieceOf (disk.contents (log_device log)) piece) → (disk.is_observable → IsReaderOf (disk.contents (log_device log)) reader) → WalksOn w (walk-with w log reader piece l p)
    walks-read log reader piece l p reads limit ahead holds = record {
      over = record {
        table = subst (λ n. IsSuper n w.found) (sym reads.reads.counts.same_size) over.table;
        same_blocks = reads.kept.blocks ∙ over.same_blocks;
        limit = limit ∙ over.limit;
        ahead = ahead;
        holds = holds;
      };
      same_super = refl;
      reads = reads;
    }

    -- The log was read ahead.
    pub walks-ahead : (log : Log D disk) (piece : PieceValue) → ReadsLog w.log log → (disk.is_observable → IsPieceOf (disk.contents (log_device log)) piece) → WalksOn w (walk-with w log w.reader piece w.loader w.place)
    walks-ahead log piece reads ahead =
        walks-read log w.reader piece w.loader w.place reads refl ahead (reader-on (log_device w.log) (log_device log) w.reader reads.reads over.holds)

  -- The walk went to another place.
  pub walks-moved : (old new : LogWalk D disk) (p : Place) → WalksOn old new → WalksOn old (walk-with new new.log new.reader new.piece new.loader p)
  walks-moved old new p walks =
      let over = walks.over in
      record {
        over = record { table = over.table; same_blocks = over.same_blocks; limit = over.limit; ahead = over.ahead; holds = over.holds };
        same_super = walks.same_super;
        reads = walks.reads;
      }

  -- ---- what was read, and why no more was

  module _ {J : Type 0} (by : Judging J) (old new : D) (reads : OnlyReads disk old new) (found : Super) where
    -- What was read of the device is so after the calls, and before them.
    pub judged-on : (gate : ℕ) (l : Loader) (judge : J) → WasJudged disk by old found gate l judge → WasJudged disk by new found gate l judge
    judged-on gate l judge was reported =
        subst (λ n. IsJudgedRead by n (disk.contents new) found gate l judge) (sym reads.counts.same_size)
        (subst (λ i. IsJudgedRead by (disk.size old) i found gate l judge) (same-bytes old new reads reported) (was reported))

    pub judged-back : (gate : ℕ) (l : Loader) (judge : J) → WasJudged disk by new found gate l judge → WasJudged disk by old found gate l judge
    judged-back gate l judge was reported =
        subst (λ n. IsJudgedRead by n (disk.contents old) found gate l judge) reads.counts.same_size
        (subst (λ i. IsJudgedRead by (disk.size new) i found gate l judge) (sym (same-bytes old new reads reported)) (was reported))

    -- Why no more was read after the calls.
    pub cause-back : (later : D) (cause : OpenCause) → LogCause disk by found new later cause → LogCause disk by found old later cause
    cause-back later cause is =
        cause-along disk (IsDamagedStoreBy by.may (disk.contents new) found) (IsDamagedStoreBy by.may (disk.contents old) found) old new later reads.counts.more_faults
        (λ reported block damage. subst (λ i. IsDamagedStoreBy by.may i found block) (sym (same-bytes old new reads reported)) damage) cause is

  -- A log that was read whole, for a superblock that is the walk's.
  pub walked-of : {J : Type 0} {by : Judging J} (old new : LogWalk D disk) (judge : J) (found : Super) → old.found ≡ found → WasWalked by old new judge → IsPlaceIn found new.loader.board.entries new.place × WasJudged disk by (walked_device old) found new.place.gate new.loader judge
  walked-of {by = by} old new judge found same walked = (
    subst (λ s. IsPlaceIn s new.loader.board.entries new.place) same walked.at,
    subst (λ s. WasJudged disk by (walked_device old) s new.place.gate new.loader judge) same walked.read,
  )

  module _ {J : Type 0} (by : Judging J) where
    -- At the start the judge has seen nothing.
    pub start-walked : (old new : LogWalk D disk) (judge : J) → WalksOn old new → IsPlaceIn old.found new.loader.board.entries new.place → WasReadTo new.place.gate new.loader → WasStarted disk (walked_device old) old.found new.place.gate new.loader → by.is_after nothing_seen judge → IsWalked by new judge
    start-walked old new judge walks at into read begun = record {
      over = walks.over;
      at = rw walks.same_super at;
      into = into;
      read = rw walks.same_super (judged-on by (walked_device old) (walked_device new) walks.reads.reads old.found new.place.gate new.loader judge (λ reported.
          start-judged by (disk.size (walked_device old)) (disk.contents (walked_device old)) old.found new.place.gate new.loader judge begun (read reported)));
    }

    -- Blocks of the log were read ahead.
    pub ahead-walked : (old new : LogWalk D disk) (judge : J) → WalksOn old new → new.loader ≡ old.loader → new.place ≡ old.place → IsWalked by old judge → IsWalked by new judge
    ahead-walked old new judge walks loader place walked = record {
      over = walks.over;
      at = rw (walks.same_super, loader, place) walked.at;
      into = rw (loader, place) walked.into;
      read = rw (walks.same_super, loader, place) (judged-on by (walked_device old) (walked_device new) walks.reads.reads old.found old.place.gate old.loader judge walked.read);
    }

    -- The walk from `begun` was read so far.
    pub record IsWalkedSince (begun w : LogWalk D disk) (judge : J) : Type 0 where
      pub on : WalksOn begun w
      pub walked : IsWalked by w judge

    -- The walk from `begun` is at a closed gate.
    pub end-walked : (begun mid new : LogWalk D disk) (before after : J) → WalksOn begun mid → WalksOn mid new → IsWalked by new after → IsAtEnd by mid new before after → WasWalked by begun new after
    end-walked begun mid new before after first second walked end =
        let on = walks-trans begun mid new first second in
        record {
          at = subst (λ s. IsPlaceIn s new.loader.board.entries new.place) on.same_super walked.at;
          into = walked.into;
          read = judged-back by (walked_device begun) (walked_device new) on.reads.reads begun.found new.place.gate new.loader after (subst (λ s. WasJudged disk by (walked_device new) s new.place.gate new.loader after) on.same_super walked.read);
          closed = λ reported.
              subst (λ (p : Place). IsClosed (disk.contents (walked_device begun)) p.gate) (sym end.place)
              (subst (λ i. IsClosed i mid.place.gate) (sym (same-bytes (walked_device begun) (walked_device mid) first.reads.reads reported)) (end.closed reported));
        }

    -- ---- one extent more

    module _ (w : LogWalk D disk) (judge : J) (walked : IsWalked by w judge) where
      pub limit-low : w.reader.limit ≤ w.place.gate
      limit-low =
          let low = start-low (disk.size (walked_device w)) w.found w.place.gate walked.over.table walked.at.after_start in
          omega (arith, low, walked.over.limit)

      -- The pages below the limit stand rightly, and their trees were made.
      pub own-walked : disk.is_observable → AreOfDevice (disk.contents (walked_device w)) w.reader.limit w.loader.nodes
      own-walked reported =
          let read = walked.read reported in
          (read.read.log.pages, subst (λ n. StandBelow (disk.contents (walked_device w)) n read.read.log.pages) (sym walked.over.limit) read.read.stand, read.read.into.known)

      module _ (head : Head) (holds : HoldsNext w head) where
        abbrev body : List ℕ
        body = body_ahead w head

        pub next-is : w.place.gate + head.n + 1 ≡ w.place.gate + need body
        next-is = found-next (log_blocks w.log) w.place.gate head body (w.place.gate + head.n + 1) holds.whole

        pub next-inside : w.place.gate + need body < w.found.blocks
        next-inside = omega (arith, next-is, holds.whole.inside, walked.over.same_blocks)

        module _ (matches : disk.is_observable → IsOpen (disk.contents (walked_device w)) w.place.gate × Has (disk.contents (walked_device w)) (4096 * (w.place.gate + 1)) body) (unsealed : has_seal w.found ≡ false) where
          extent : disk.is_observable → IsExtent (disk.contents (walked_device w)) w.place.gate body head
          extent reported =
              (found-extent (disk.contents (walked_device w)) (log_blocks w.log) w.place.gate head body (w.place.gate + head.n + 1) holds.whole (matches reported)).0

          low : w.found.checkpoint ≤ w.place.gate
          low = omega (arith, limit-low, walked.over.limit)

          -- The head may not stand under the superblock.
          pub extent-above : (MayHeadStand w.found.format head → ⊥) → disk.is_observable → IsDamagedStoreBy by.may (disk.contents (walked_device w)) w.found (w.place.gate + 1)
          extent-above above reported =
              inr (above-damaged by (disk.size (walked_device w)) (disk.contents (walked_device w)) w.found w.place.gate w.loader judge (walked.read reported) low body head (extent reported) unsealed next-inside above)

          -- A block of the body breaks the format or the rule.
          pub extent-breaks : MayHeadStand w.found.format head → (block : ℕ) → BreaksExtent by w head judge block → disk.is_observable → IsDamagedStoreBy by.may (disk.contents (walked_device w)) w.found block
          extent-breaks under block breaks reported =
              inr (body-damaged by (disk.size (walked_device w)) (disk.contents (walked_device w)) w.found w.place.gate w.loader judge (walked.read reported) low body head (extent reported) unsealed under block next-inside
              (subst (λ n. BreaksAfter by (disk.contents (walked_device w)) n w.place.gate body w.loader judge block) walked.over.limit (breaks reported)))

          -- The body was read, and the walk is at the gate after it.
          pub extent-walked : MayHeadStand w.found.format head → (mid : Loader) (new : LogWalk D disk) (after : J) → WalksOn w new → new.loader ≡ mid → IsPlaceAfter w.place (w.place.gate + head.n + 1) new.place → ReadsExtent by w mid head judge after → IsWalked by new after
          extent-walked under mid new after walks loader goes reads =
              let next : new.place.gate ≡ w.place.gate + need body = goes.gate ∙ next-is in
              record {
                over = walks.over;
                at = rw (walks.same_super, loader) (record {
                  inside = omega (arith, next, next-inside);
                  counted = omega (arith, goes.extents, reads.through.counted, walked.at.counted);
                  ends = omega (arith, goes.extents, goes.gate, holds.whole.is_body.spells.is_head.blocks, walked.at.ends);
                  after_start = omega (arith, goes.gate, walked.at.after_start);
                });
                into = rw loader (subst (λ g. WasReadTo g mid) (sym next) reads.through.into);
                read = rw (walks.same_super, loader) (judged-on by (walked_device w) (walked_device new) walks.reads.reads w.found new.place.gate mid after (λ reported.
                    read-on by (disk.size (walked_device w)) (disk.contents (walked_device w)) w.found w.place.gate w.loader judge (walked.read reported) low body head (extent reported) unsealed under mid after new.place.gate next
                    (subst (λ n. ReadsBody by (disk.contents (walked_device w)) n w.place.gate body w.loader mid judge after) walked.over.limit (reads.read reported))));
              }
