-- What is true of every engine, and of one that is at rest.
use Rattle.std.specs.Prelude.{◌≡◌, ℕ, ◌<◌, ◌≤◌, nat_eq, true, List, [], ◌++◌, length, take, Some}
use Rattle.std.proofs.Common.{refl, sym, ◌∙◌, ap, subst, inl, arith}
use Rattle.std.proofs.lemmas.List.{append-nil, take_all}
use Rattle.btr_disk.specs.declared.disk.Disk.{Ghosts}
use Rattle.btr_disk.specs.Bytes.{Image, Same}
use Rattle.btr_disk.specs.Causes.{Rose}
use Rattle.btr_log.proofs.LogLemmas.{holds_of_log}
use Rattle.btr_base.specs.declared.limits.TheConstants.{MAX_VERSIONS}
use Rattle.btr_hist.specs.declared.entry.Entry.{Entry}
use Rattle.btr_hist.specs.History.{ids, stream_of, latest}
use Rattle.btr_engine.specs.declared.engine.Engine.{Engine}
use Rattle.btr_engine.specs.Holds.{HoldsHistory}
use Rattle.btr_engine.specs.Engine.{log_of, device, blocks_of, tail_of, is_stopped, faults_at_open, IsEngineOf, IsAtRest, IsHeldSince, IsDurable}
use Rattle.btr_engine.proofs.HoldsLemmas.{holds_still}
use Rattle.btr_engine.proofs.Streams.{found_below, few_versions}

-- The number of a stream is below the number of streams.
pub known_below : (h : List Entry) (id stream : ℕ) → stream_of h id ≡ Some stream → stream < length (ids h)
known_below h id stream is = omega (arith, found_below (nat_eq id) 0 (ids h) stream is)

-- The whole history is a prefix of itself.
pub take_whole : (h : List Entry) → take (length h) (h ++ []) ≡ h
take_whole h = ap (take (length h)) (append-nil h) ∙ take_all (length h) h (omega arith)

module _ {D : Type 0} {disk : Ghosts D} (e : Engine D disk) where
  -- The device of a stopped engine has failed since the opening.
  pub stopped_by_fault : is_stopped e ≡ true → Rose (faults_at_open e) (disk.faults (device e))
  stopped_by_fault stopped =
      let rose = (holds_of_log (log_of e)).rose stopped in
      omega (arith, rose, e.failed)

module _ {D : Type 0} {disk : Ghosts D} (h : List Entry) (e : Engine D disk) where
  -- An image that is what a read gives holds the history of an engine at rest.
  pub holds_in : IsAtRest h e → (c : Image) → Same (disk.contents (device e)) c → HoldsHistory (disk.size (device e)) c h
  holds_in rest c same = record {
    blocks = blocks_of e;
    tail = tail_of e;
    holds = holds_still (disk.size (device e)) (disk.contents (device e)) (blocks_of e) (tail_of e) h rest.holds c same;
  }

  -- Every image since this moment holds it: `only_now` is the device's law.
  pub held_now : ((c : Image) → disk.images_since (device e) (disk.calls (device e)) c → disk.images_now (device e) c) → IsAtRest h e → IsHeldSince h (disk.calls (device e)) e
  held_now only_now rest = record {
    of = rest.of;
    since = λ c left. holds_in rest c (rest.only.each c (only_now c left));
    now = λ c left. holds_in rest c (rest.only.each c left);
  }

  -- A history that every image holds is durable.
  pub durable_held : (calls entries : ℕ) → calls ≤ disk.calls (device e) → entries ≤ length h → IsHeldSince h calls e → IsDurable h calls entries e []
  durable_held calls entries past longer held = record {
    of = held.of;
    past = past;
    longer = longer;
    one = omega arith;
    runs = λ _. refl;
    since = λ c left. (length h, longer, subst (HoldsHistory (disk.size (device e)) c) (sym (take_whole h)) (held.since c left));
    now = λ c left. inl (held.now c left);
  }

  -- The history of an engine at rest is durable from this moment on.
  pub durable_from : ((c : Image) → disk.images_since (device e) (disk.calls (device e)) c → disk.images_now (device e) c) → IsAtRest h e → IsDurable h (disk.calls (device e)) (length h) e []
  durable_from only_now rest =
      durable_held (disk.calls (device e)) (length h) (omega arith) (omega arith) (held_now only_now rest)

  -- The entries of an acknowledged history are durable, however their number is written.
  pub durable_as : (entries : ℕ) → length h ≡ entries → ((c : Image) → disk.images_since (device e) (disk.calls (device e)) c → disk.images_now (device e) c) → IsAtRest h e → IsDurable h (disk.calls (device e)) entries e []
  durable_as entries same only_now rest =
      subst (λ n. IsDurable h (disk.calls (device e)) n e []) same (durable_from only_now rest)

  -- A stream has fewer versions than it may have: the device has too few blocks for more.
  pub few_versions_of : IsEngineOf h e → (stream : ℕ) → latest h stream < MAX_VERSIONS
  few_versions_of of stream =
      omega (arith, few_versions h stream, of.entries, e.counted, e.ends, (log_of e).tail_inside, (log_of e).addressable)
