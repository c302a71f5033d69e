-- Feeds: the points that wait for a commit, and what an insert answers.
use Rattle.std.specs.Prelude.{◌≡◌, ℕ, ℤ, ◌+◌, ◌≤◌, nat_le, nat_lt, not, List, [], ◌∷◌, length, map, filter, fold}
use Rattle.std.specs.Prelude.{if◌then◌else◌, Option, Some, None, Result, Err, IfErr}
use Rattle.std.specs.Int.{int_min}
use Rattle.std.specs.Option.{option_map, option_or}
use Rattle.btr_base.specs.declared.point.Point.{Point}
use Rattle.btr_base.specs.declared.limits.TheConstants.{MAX_COMMIT_POINTS}
use Rattle.btr_base.specs.Point.{in_domain, AreInDomain}
use Rattle.btr_feed.specs.declared.feed.Held.{Held}
use Rattle.btr_feed.specs.declared.feed.Held.TheVariants.{Buffered, Due}
use Rattle.btr_feed.specs.declared.feed.FeedFault.{FeedFault}
use Rattle.btr_feed.specs.declared.feed.FeedFault.TheVariants.{OutOfDomain, TooMany, Want}

-- A feed: its stream, the number of points at which they are due, and its points in the order of insertion.
pub record FeedValue : Type 0 where
  pub stream : ℕ
  pub threshold : ℕ
  pub points : List Point

-- Points that a feed may hold: each lies in the domain, and they are at most as many as one commit adds.
abbrev pub MayWait : List Point → Type 0
MayWait points = AreInDomain points × (length points ≤ MAX_COMMIT_POINTS)

-- The number of points of a feed, and whether they are due.
abbrev pub held : FeedValue → Held
held f = if nat_le f.threshold (length f.points) then Due (length f.points) else Buffered (length f.points)

-- The least of the times, if there is a time.
abbrev pub least : List ℤ → Option ℤ
least [] = None
least (t ∷ ts) = Some (fold int_min t ts)

-- The times of the points outside the domain.
abbrev pub times_outside : List Point → List ℤ
times_outside points = map (λ p. p.time) (filter (λ p. not (in_domain p.time)) points)

-- The least time of a point outside the domain.
abbrev pub least_time_outside : List Point → Option ℤ
least_time_outside points = least (times_outside points)

-- The number of points that is too many for one commit.
abbrev pub too_many : ℕ → Option ℕ
too_many count = if nat_lt MAX_COMMIT_POINTS count then Some count else None

-- Why a feed does not accept these points: one lies outside the domain; or else all points together would be too many.
abbrev pub insert_fault : FeedValue → List Point → Option FeedFault
insert_fault f points = option_or
    (option_map (λ time. OutOfDomain time) (least_time_outside points))
    (option_map (λ count. TooMany count) (too_many (length f.points + length points)))

-- The call fails with exactly this fault; if there is none, it fails only because it is out of memory.
abbrev pub FailsBy : Option FeedFault → Result Held FeedFault → Type 0
FailsBy (Some fault) result = result ≡ Err fault
FailsBy None result = IfErr result (λ e. e ≡ Want)
