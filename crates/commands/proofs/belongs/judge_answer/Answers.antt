-- `commands::belongs::judge_answer` meets its contract.
use Rattle.std.proofs.Common.{◌≡◌, ℕ, ◌≤◌, List, length, take, replicate, refl, subst, length-take-le, arith, rules}
use Rattle.std.proofs.lemmas.List.{length-replicate}
use lib.Ieee.{Float}
use Rattle.numbers.specs.F64.{0ᶠ}
use Rattle.drivers.specs.laws.Job.{n_to}
use Rattle.commands.specs.Output.{Writes}
use Rattle.commands.specs.laws.Taken.{as_answer, answer_taken_is, sound_held}
use Rattle.commands.specs.laws.Belongs.{judged_is, refused_judged}
use Rattle.commands.proofs.belongs.judge_answer.Goals as goal

zeros : List Float
zeros = replicate 32 0ᶠ

-- an array of 32 numbers, and one of the same length, hold a point
in_zeros : (n : ℕ) → n ≤ 32 → n ≤ length zeros
unfolding zeros
in_zeros n h = omega (arith, h, length-replicate 32 0ᶠ)

in_point : (n : ℕ) (xs : List Float) → n ≤ 32 → length xs ≡ length zeros → n ≤ length xs
in_point n xs h l = omega (arith, in_zeros n h, l)

front_long : (n : ℕ) (xs : List Float) → n ≤ 32 → length xs ≡ length zeros → length (take n xs) ≡ n
front_long n xs h l = length-take-le n xs (in_point n xs h l)

pub returns-in-Ok : goal.returns-in-Ok
unfolding zeros
returns-in-Ok g c =
    let t = c.args.taken in
    let j = t.job in
    let b = c.args.buffers.now in
    let h = sound_held j t.sound b.table b.xc b.mq (search rules) (search rules) (search rules) in
    let n = j.n in
    let call = c.take_answer-read in
    let small = n_to j t.sound in
    let is = answer_taken_is n c.args.bytes.now zeros b.out _ _ _ (as_answer call.ensures c.in-Ok.is) in
    subst (Writes g.W.Sink c.args.console.now c.say.new.console)
    (judged_is j t.sound _ _ _ (length-take-le _ b.table h.table_long) (length-take-le n b.xc h.xc_long) (front_long n zeros small refl)
    c.args.bytes.now zeros b.out _ _ _ (in_zeros n small) is (front_long n _ small call.auto.point) _ _ c.belongs.ensures)
    c.say.ensures

pub returns-in-Err : goal.returns-in-Err
unfolding zeros
returns-in-Err g c =
    let t = c.args.taken in
    let j = t.job in
    let b = c.args.buffers.now in
    let h = sound_held j t.sound b.table b.xc b.mq (search rules) (search rules) (search rules) in
    let n = j.n in
    let call = c.take_answer-read in
    subst (Writes g.W.Sink c.args.console.now c.hand_text.new.console)
    (refused_judged j _ _ c.args.bytes.now zeros b.out (in_zeros n (n_to j t.sound)) (search rules) _ _ _ (as_answer call.ensures c.in-Err.is))
    c.hand_text.ensures
