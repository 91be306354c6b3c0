-- `drivers::cutting_plane::check` meets its contract. Assumes nothing.
use mathlib.Core.Path.{◌≡◌, ap, ◌∙◌}
use mathlib.Core.Bool.{Bool, ◌&&◌}
use Prim.Native.Nat.{ℕ, ◌*◌}
use lib.Dec.{eqb}
use lib.ListN.{length}
use Rattle.numbers.specs.Refusal.{ask_at}
use Rattle.numbers.specs.declared.refusal.Refusal.{Refusal}
use Rattle.numbers.specs.laws.Refusal.{at_first, at_next, asked_fault, asked_sound, asked_last, exits}
use Rattle.drivers.specs.CuttingPlane.{check_of}
use Rattle.drivers.proofs.cutting_plane.check.Goals as goal

-- a test that a callee answers, and that of the lengths, which has one in it
same : {t u : Bool} (why : Refusal) → t ≡ u → ask_at 0 t why ≡ ask_at 0 u why
same why e = ap (λ (b : Bool). ask_at 0 b why) e

all_lengths : {t u : Bool} (n mq grad grad_t : ℕ) (why : Refusal) → t ≡ u
    → ask_at 0 (t && eqb mq (n * n) && eqb grad n && eqb grad_t n) why ≡ ask_at 0 (u && eqb mq (n * n) && eqb grad n && eqb grad_t n) why
all_lengths n mq grad grad_t why e = ap (λ (b : Bool). ask_at 0 (b && eqb mq (n * n) && eqb grad n && eqb grad_t n) why) e

pub returns-in_err-dimension : goal.returns-in_err-dimension
unfolding check_of
returns-in_err-dimension c = exits (λ r. r) _ _ c.from_residual.ensures.1 (at_first _ (at_first _ (at_first _ (asked_fault _ _ c.dimension.ensures.value c.in_err-dimension.was))))

pub returns-in_err-lengths : goal.returns-in_err-lengths
unfolding check_of
returns-in_err-lengths c =
    let a = c.args in
    let d = asked_sound _ _ c.dimension.ensures.value c.in_ok-dimension.was in
    let f = asked_fault _ _ c.lengths.ensures.value c.in_err-lengths.was ∙ all_lengths a.n (length a.mq.now) (length a.grad.now) (length a.grad_t.now) _ c.table_fits.ensures in
    exits (λ r. r) _ _ c.from_residual-in_err-lengths.ensures.1 (at_first _ (at_first _ (at_next d f)))

pub returns-in_err-ask : goal.returns-in_err-ask
unfolding check_of
returns-in_err-ask c =
    let a = c.args in
    let d = asked_sound _ _ c.dimension.ensures.value c.in_ok-dimension.was in
    let l = asked_sound _ _ c.lengths.ensures.value c.in_ok-lengths.was ∙ all_lengths a.n (length a.mq.now) (length a.grad.now) (length a.grad_t.now) _ c.table_fits.ensures in
    let f = asked_fault _ _ c.ask.ensures.value c.in_err-ask.was ∙ same _ c.bands_fit.ensures in
    exits (λ r. r) _ _ c.from_residual-in_err-ask.ensures.1 (at_first _ (at_next (at_next d l) (at_first _ f)))

pub returns-in_err-ask-2 : goal.returns-in_err-ask-2
unfolding check_of
returns-in_err-ask-2 c =
    let a = c.args in
    let d = asked_sound _ _ c.dimension.ensures.value c.in_ok-dimension.was in
    let l = asked_sound _ _ c.lengths.ensures.value c.in_ok-lengths.was ∙ all_lengths a.n (length a.mq.now) (length a.grad.now) (length a.grad_t.now) _ c.table_fits.ensures in
    let b = asked_sound _ _ c.ask.ensures.value c.in_ok-ask.was ∙ same _ c.bands_fit.ensures in
    let f = asked_fault _ _ c.ask-2.ensures.value c.in_err-ask-2.was ∙ same _ c.cursors_fit.ensures in
    exits (λ r. r) _ _ c.from_residual-in_err-ask-2.ensures.1 (at_first _ (at_next (at_next d l) (at_next b f)))

pub returns : goal.returns
unfolding check_of
returns c =
    let a = c.args in
    let d = asked_sound _ _ c.dimension.ensures.value c.in_ok-dimension.was in
    let l = asked_sound _ _ c.lengths.ensures.value c.in_ok-lengths.was ∙ all_lengths a.n (length a.mq.now) (length a.grad.now) (length a.grad_t.now) _ c.table_fits.ensures in
    let b = asked_sound _ _ c.ask.ensures.value c.in_ok-ask.was ∙ same _ c.bands_fit.ensures in
    let k = asked_sound _ _ c.ask-2.ensures.value c.in_ok-ask-2.was ∙ same _ c.cursors_fit.ensures in
    asked_last _ _ _ c.ask-3.ensures.value (λ g e. at_next (at_next (at_next d l) (at_next b k)) e)
