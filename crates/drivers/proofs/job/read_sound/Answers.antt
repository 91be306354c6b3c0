-- `drivers::job::read_sound` meets its contract. Assumes nothing.
use Rattle.numbers.specs.declared.refusal.Fault.{Fault}
use Rattle.std.specs.Prelude.{Ok, Result, Err}
use mathlib.Core.Path.{◌≡◌, refl, sym, ap, ◌∙◌}
use mathlib.Core.Bool.{Bool, true, false, not, ◌&&◌}
use mathlib.Core.List.{List}
use Prim.Native.Nat.{ℕ, ◌*◌, ◌≤◌}
use borrow.Author.Tests.{leb-true, not-true, not-false}
use lib.Dec.{leb}
use lib.ListN.{length}
use lib.Ieee.{Float}
use Rattle.numbers.specs.declared.refusal.Refusal.TheVariants.{Room}
use Rattle.numbers.specs.Refusal.{◌⨾◌, At, Sound, Tests}
use Rattle.numbers.specs.laws.Pick.{is_hit, is_skip, and_parts}
use Rattle.drivers.specs.Record.{numbers_at, fields_of, row_count, rows_of, fronted, place}
use Rattle.drivers.specs.Job.{job_at, full_job_at, has_room, room_fault, read_into}
use Rattle.drivers.specs.declared.job.Job.{Job}
use Rattle.drivers.specs.Rules.{matrix_place, point_place}
use Rattle.drivers.proofs.job.read_sound.Goals as goal

rows_are : (bytes places : List ℕ) → (job_at bytes places).rows ≡ row_count bytes (fields_of bytes)
unfolding job_at
rows_are bytes places = refl

module _ (bytes places : List ℕ) (table xc mq : List Float) (j : Job) (d : j ≡ job_at bytes places) (t : Bool) (e : t ≡ has_room j (length table) (length xc) (length mq)) where
  abbrev Answer : Type 0
  Answer = (Result Job Fault) × List Float × List Float × List Float

  has : has_room (job_at bytes places) (length table) (length xc) (length mq) ≡ t
  has = rw (← d) (sym e)

  abbrev fault : Tests
  fault = room_fault (job_at bytes places) (length table) (length xc) (length mq)

  refused : not t ≡ true → ◌≡◌ {A = Answer} (At Room 0, table, xc, mq) (read_into (full_job_at bytes places) Sound table xc mq)
  unfolding full_job_at
  refused h =
      let f : (Sound ⨾ fault) ≡ At Room 0 = is_skip false Sound fault refl ∙ is_skip _ _ _ (has ∙ not-true t h) in
      rw f refl

  module _ (h : not t ≡ false) where
    read : (table' xc' mq' : List Float) → table' ≡ fronted (rows_of j.n bytes (fields_of bytes)) table → xc' ≡ fronted (numbers_at bytes (place places point_place) j.n) xc
        → mq' ≡ fronted (numbers_at bytes (place places matrix_place) (j.n * j.n)) mq → ◌≡◌ {A = Answer} (Ok j, table', xc', mq') (read_into (full_job_at bytes places) Sound table xc mq)
    unfolding full_job_at
    read table' xc' mq' a b c =
        let f : (Sound ⨾ fault) ≡ Sound = is_skip false Sound fault refl ∙ is_hit _ _ _ (has ∙ not-false t h) in
        rw (f, a, b, c, d) refl

    room : j.n ≤ 32 → (j.n ≤ 32) × (row_count bytes (fields_of bytes) * j.n ≤ length table) × (j.n ≤ length xc) × (j.n * j.n ≤ length mq)
    room s =
        let p = and_parts (leb (j.rows * j.n) (length table) && leb j.n (length xc)) (leb (j.n * j.n) (length mq)) (sym e ∙ not-false t h) in
        let q = and_parts (leb (j.rows * j.n) (length table)) (leb j.n (length xc)) p.0 in
        let k : j.rows * j.n ≤ length table = leb-true (j.rows * j.n) (length table) q.0 in
        let r : j.rows ≡ row_count bytes (fields_of bytes) = ap (λ (i : Job). i.rows) d ∙ rows_are bytes places in
        (s, rw (← r) k, leb-true j.n (length xc) q.1, leb-true (j.n * j.n) (length mq) p.1)

pub fill_job-requires : goal.fill_job-requires
fill_job-requires c =
    let a = c.args in
    room _ _ a.table.now a.xc.now a.mq.now _ c.job_at-job.ensures _ c.has_room.ensures (ap not c.if-not-has_room.false) (rw c.job_at-job.ensures c.requires.0)

pub returns : goal.returns
returns c =
    read _ _ _ _ _ _ c.job_at-job.ensures _ c.has_room.ensures (ap not c.if-not-has_room.false) _ _ _ c.fill_job.ensures.table_after c.fill_job.ensures.xc_after c.fill_job.ensures.mq_after

pub has_room-requires : goal.has_room-requires
has_room-requires c = rw c.job_at-job.ensures c.requires

pub returns-then-not-has_room : goal.returns-then-not-has_room
returns-then-not-has_room c =
    let a = c.args in
    ap (λ (f : Fault). (Err f, a.table.now, a.xc.now, a.mq.now)) c.from.ensures ∙ refused _ _ _ _ _ _ c.job_at-job.ensures _ c.has_room.ensures (ap not c.if-not-has_room.true)
