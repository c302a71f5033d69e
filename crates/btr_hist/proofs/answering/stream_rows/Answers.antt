use Rattle.std.proofs.Common.{◌≡◌, ℕ, ◌+◌, Bool, List, [], ◌∷◌, ◌++◌, sym, ap, ◌∙◌, drop, arith, append_assoc}
use Rattle.btr_hist.specs.declared.entry.Entry.{Entry}
use Rattle.btr_hist.specs.declared.answer.StreamRow.{StreamRow}
use Rattle.btr_hist.specs.History.{new_id, ids, is_output, latest}
use Rattle.btr_hist.specs.Answer.{rows_from}
use Rattle.btr_hist.proofs.Steps.{step-some, step-none}
use Rattle.btr_hist.proofs.answering.stream_rows.Goals as goal
use Rattle.btr_hist.proofs.answering.stream_rows.Goals.{in-Some+in_ok-push, in_default}

-- One more stream.
row-more : (h : List Entry) (done new all : List StreamRow) (number next id last : ℕ) (kind : Bool) (prefix rest : List ℕ) → prefix ≡ id ∷ rest → last ≡ latest h number → kind ≡ is_output h number → next ≡ number + 1 → new ≡ done ++ record { id = id; latest = last; output = kind } ∷ [] → done ++ rows_from h number prefix ≡ all → new ++ rows_from h next rest ≡ all
row-more h done new all number next id last kind prefix rest split at is more pushed so_far =
    let row = λ (l : ℕ) (o : Bool). let r : StreamRow = record { id = id; latest = l; output = o } in r in
    ap (λ n. new ++ rows_from h n rest) more
    ∙ ap (λ rs. rs ++ rows_from h (number + 1) rest) (pushed ∙ ap (λ l. done ++ row l kind ∷ []) at ∙ ap (λ o. done ++ row (latest h number) o ∷ []) is)
    ∙ append_assoc done (row (latest h number) (is_output h number) ∷ []) (rows_from h (number + 1) rest)
    ∙ ap (λ (is : List ℕ). done ++ rows_from h number is) (sym split)
    ∙ so_far

-- An entry that is no new stream.
row-same : (h : List Entry) (done new all : List StreamRow) (number next : ℕ) (prefix rest : List ℕ) → prefix ≡ rest → next ≡ number → new ≡ done → done ++ rows_from h number prefix ≡ all → new ++ rows_from h next rest ≡ all
row-same h done new all number next prefix rest same still kept so_far = cc

pub loop-entry-preserved : goal.loop-entry-preserved
loop-entry-preserved c =
    let h = c.args.entries.now in
    let i = c.loop-entry.entry-index in
    let e = c.entry-item.result in
    let all = rows_from h 0 (ids h) in
    elim c.match-new_id.branch [
      | in-Some+in_ok-push w ↦
          let step = step-some new_id h i e w.in-Some.id c.loop-entry-test.true c.entry-item.is (sym c.new_id.ensures ∙ w.in-Some.is) in
          record {
            listed = row-more h c.loop-entry.rows.items c.match-new_id.rows.items all c.loop-entry.number c.match-new_id.number w.in-Some.id w.latest_of.result w.is_output.result (ids (drop i h)) (ids (drop (i + 1) h)) step w.latest_of.ensures w.is_output.ensures w.number-is (ap (λ v. v.items) w.rows-is ∙ w.in_ok-push.ensures.items) c.loop-entry.invariant.listed;
            few = omega arith;
          }
      | in_default w ↦
          let step = step-none new_id h i e c.loop-entry-test.true c.entry-item.is (sym c.new_id.ensures ∙ w.in_default.is) in
          record {
            listed = row-same h c.loop-entry.rows.items c.match-new_id.rows.items all c.loop-entry.number c.match-new_id.number (ids (drop i h)) (ids (drop (i + 1) h)) step w.number-is (ap (λ v. v.items) w.rows-is) c.loop-entry.invariant.listed;
            few = omega arith;
          }
    ]
