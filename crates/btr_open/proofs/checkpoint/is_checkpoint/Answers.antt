use Rattle.std.proofs.Common.{◌≡◌, ◌<◌, ◌^◌, ℕ, List, length, ap, sym, ◌∙◌, subst, arith}
use Rattle.btr_roll.specs.Roll.{RollStreamValue, roll_bytes}
use Rattle.btr_streams.specs.Rolling.{rolled}
use Rattle.btr_open.specs.Content.{HasCheckpoint}
use Rattle.btr_open.proofs.StartContent.{content-of-head, head-of-content}
use Rattle.btr_open.proofs.checkpoint.is_checkpoint.Goals.{In_ok-content}
use Rattle.btr_open.proofs.checkpoint.is_checkpoint.Goals as goal

pub returns : goal.returns
returns c =
    let at = (goal.at.returns c).In_ok-content in
    let head = at.args.head.now in
    let body = at.args.body.now in
    let board = at.args.board.now in
    let least = at.args.least in
    let contents : ℕ → List ℕ = λ format. roll_bytes format (rolled board) in
    let few : board.entries < 2 ^ 64 = omega (arith, c.entries.ensures) in
    let short : length body < 2 ^ 64 = omega arith in
    let bytes : c.deref.result.now ≡ contents head.format = c.deref.ensures.value ∙ c.in_ok-content.ensures.bytes ∙ ap (λ (l : List RollStreamValue). roll_bytes head.format l) c.in_ok-roll.ensures.is in (
      (λ yes.
          head-of-content least board.entries contents body head at.requires.body few short
          (subst (λ (l : List ℕ). HasCheckpoint least board.entries (λ format. l) body) bytes
          (subst (λ n. HasCheckpoint least n (λ format. c.deref.result.now) body) c.entries.ensures (c.has_checkpoint.ensures.0 yes)))),
      (λ has.
          c.has_checkpoint.ensures.1
          (subst (λ n. HasCheckpoint least n (λ format. c.deref.result.now) body) (sym c.entries.ensures)
          (subst (λ (l : List ℕ). HasCheckpoint least board.entries (λ format. l) body) (sym bytes)
          (content-of-head least board.entries contents body head at.requires.body few short has)))),
    )
