use Rattle.std.specs.Prelude.{◌-◌, ◌<◌, ◌≤◌, ◌^◌}
use Rattle.std.proofs.Common.{refl, sym, subst, arith}
use Rattle.std.proofs.lemmas.Option.{IfSome_then}
use Rattle.btr_log.specs.Log.{log_device as disk_of}
use Rattle.btr_log.specs.Extents.{need, IsBody}
use Rattle.btr_open.specs.Content.{node_blocks_of}
use Rattle.btr_open.specs.declared.loading.Loader.{Loader}
use Rattle.btr_open.specs.Loading.{FetchesAll, IsNeeded, HasNothingNext, BreaksNext, HasJudged, HasMarked}
use Rattle.btr_open.specs.LogWalk.{ReadsExtent}
use Rattle.btr_open.proofs.BodyParts.{IfNone_then}
use Rattle.btr_open.proofs.ReadingLemmas.{checkpoint-on, checkpoint-body, checkpoint-breaks, fetched-read, entry-on, entry-body, entry-breaks}
use Rattle.btr_open.proofs.LogWalkLemmas.{limit-low, own-walked, can-read, next-inside}
use Rattle.btr_open.proofs.log_walk.LogWalk.read_body.Goals as goal

-- The body that is read is the one in the piece.
pub returns-then-head-eq2-clause-read : goal.returns-then-head-eq2-clause-read
returns-then-head-eq2-clause-read g c =
    let w = c.args.self.now in
    let j = c.args.judge.now in
    let after = c.pass.new.judge in
    let gate = w.place.gate in
    let body = c.blocks-body.result.now in
    let marked = c.in_ok-pass.ensures.marked in
    let short : need body ≤ 2 ^ 64 = rw c.blocks-body.ensures (omega (arith, next-inside g.J.Judge w j c.requires.walked c.args.head.now c.requires.holds, c.requires.walked.over.table.blocks_to)) in
    IfNone_then c.in_ok-pass.field-0 (HasMarked g.J.Judge gate body w.loader j after) (ReadsExtent g.J.Judge w w.loader c.args.head.now j after)
    (λ is. record {
      through = rw (sym c.blocks-body.ensures) (checkpoint-on gate body w.loader c.requires.walked.into);
      read = λ reported. rw (sym c.blocks-body.ensures) (checkpoint-body gate body w.loader g.J.Judge j after (g.D.Disk.contents (disk_of w.log)) w.reader.limit short c.requires.walked.into is);
    }) marked

pub returns-then-head-eq2-clause-damaged : goal.returns-then-head-eq2-clause-damaged
returns-then-head-eq2-clause-damaged g c =
    let w = c.args.self.now in
    let body = c.blocks-body.result.now in
    IfSome_then c.in_ok-pass.field-0 {P = HasNothingNext w.place.gate body w.loader} c.in_ok-pass.ensures.damaged (λ block none reported.
    rw (sym c.blocks-body.ensures) (checkpoint-breaks w.place.gate body w.loader g.J.Judge c.args.judge.now (g.D.Disk.contents (disk_of w.log)) w.reader.limit block none))

pub pass-requires-clause-body : goal.pass-requires-clause-body
pass-requires-clause-body g c = rw c.blocks-body.ensures c.requires.holds.whole.is_body

pub blocks-body-requires : goal.blocks-body-requires
blocks-body-requires g c = c.requires.holds.held

pub node_blocks-nodes-requires : goal.node_blocks-nodes-requires
node_blocks-nodes-requires g c = record { body = rw c.blocks-body.ensures c.requires.holds.whole.is_body }

pub fetch_needed-requires-clause-reader : goal.fetch_needed-requires-clause-reader
fetch_needed-requires-clause-reader g c = can-read c.args.self.now c.requires.walked.over

pub fetch_needed-requires-clause-own : goal.fetch_needed-requires-clause-own
fetch_needed-requires-clause-own g c = own-walked g.J.Judge c.args.self.now c.args.judge.now c.requires.walked

pub add-requires-clause-body : goal.add-requires-clause-body
add-requires-clause-body g c = rw c.blocks-body.ensures c.requires.holds.whole.is_body

pub add-requires-clause-read : goal.add-requires-clause-read
add-requires-clause-read g c =
    let w = c.args.self.now in
    let old = w.loader in
    let mid : Loader = record { board = old.board; nodes = c.fetch_needed.new.nodes; steps = c.fetch_needed.new.steps; least = old.least } in
    fetched-read w.reader.limit w.place.gate (limit-low g.J.Judge w c.args.judge.now c.requires.walked) c.blocks-body.result.now c.args.head.now old mid refl refl c.in_ok-fetch_needed.ensures.grows c.requires.walked.into

pub returns-clause-read : goal.returns-clause-read
returns-clause-read g c =
    let w = c.args.self.now in
    let old = w.loader in
    let gate = w.place.gate in
    let limit = w.reader.limit in
    let head = c.args.head.now in
    let body = c.blocks-body.result.now in
    let mid : Loader = record { board = old.board; nodes = c.fetch_needed.new.nodes; steps = c.fetch_needed.new.steps; least = old.least } in
    let new = c.add.new.self in
    let before = c.args.judge.now in
    let after = c.add.new.judge in
    let fetched = c.in_ok-fetch_needed.ensures in
    let image = g.D.Disk.contents (disk_of w.log) in
    let low = limit-low g.J.Judge w before c.requires.walked in
    let inside = next-inside g.J.Judge w before c.requires.walked head c.requires.holds in
    let at = c.requires.walked.at in
    let table = c.requires.walked.over.table in
    let short : need body ≤ 2 ^ 64 = rw c.blocks-body.ensures (omega (arith, inside, table.blocks_to)) in
    let few : old.board.entries < 2 ^ 64 - 1 = omega (arith, at.counted, at.ends, at.inside, table.blocks_to) in
    let is_body : IsBody body head = rw c.blocks-body.ensures c.requires.holds.whole.is_body in
    let all = λ (reported : g.D.Disk.is_observable). subst (λ xs. FetchesAll image limit (IsNeeded xs head.root) old.nodes mid.nodes) c.node_blocks-nodes.ensures (fetched.all reported) in
    IfNone_then c.in_ok-add.field-0 (HasJudged g.J.Judge gate body mid new before after) (ReadsExtent g.J.Judge w new head before after) (λ judged. record {
      through = rw (sym c.blocks-body.ensures) (entry-on limit gate low body head old mid refl refl fetched.grows g.J.Judge before after new judged c.requires.walked.into);
      read = λ reported.
          rw (sym c.blocks-body.ensures) (entry-body limit gate low body head old mid refl refl fetched.grows g.J.Judge before after new judged image (all reported).adds is_body few short c.requires.walked.into (all reported).part);
    }) c.in_ok-add.ensures.added

pub returns-clause-damaged : goal.returns-clause-damaged
returns-clause-damaged g c =
    let w = c.args.self.now in
    let old = w.loader in
    let gate = w.place.gate in
    let limit = w.reader.limit in
    let head = c.args.head.now in
    let body = c.blocks-body.result.now in
    let mid : Loader = record { board = old.board; nodes = c.fetch_needed.new.nodes; steps = c.fetch_needed.new.steps; least = old.least } in
    let fetched = c.in_ok-fetch_needed.ensures in
    let image = g.D.Disk.contents (disk_of w.log) in
    let before = c.args.judge.now in
    let low = limit-low g.J.Judge w before c.requires.walked in
    IfSome_then c.in_ok-add.field-0 {P = BreaksNext g.J.Judge gate body (node_blocks_of head body) head.root mid before} c.in_ok-add.ensures.damaged (λ block breaks reported.
    let all = subst (λ xs. FetchesAll image limit (IsNeeded xs head.root) old.nodes mid.nodes) c.node_blocks-nodes.ensures (fetched.all reported) in
    rw (sym c.blocks-body.ensures) (entry-breaks limit gate low body head old mid refl refl fetched.grows g.J.Judge before image block all.adds all.fetched breaks))
