-- A step of `cutting_plane_optim` from a state that passes the tests of a run is refused by 6 or not at all, and the state that it leaves passes them again. Assumes nothing.
use Rattle.numbers.specs.declared.cut.CutStatus.{CutStatus}
use Rattle.oracles.specs.declared.lowpass_oracle.OptimVerdict.{OptimVerdict}
use Rattle.std.specs.Prelude.{ℕ, ◌≡◌, refl, Bool, true, false, ◌&&◌, List, ◌⊎◌, eqb, length, ℤ, Float, Err, None, Ok, Result}
use Rattle.std.proofs.Common.{sym, ap, ◌∙◌, true≢false, inl, inr, eqb-true}
use Rattle.numbers.specs.Pick.{pick}
use Rattle.numbers.specs.Refusal.{refusal_number, Sound, number_of}
use Rattle.numbers.specs.declared.refusal.Refusal.{Refusal}
use Rattle.numbers.specs.declared.cut.CutChoice.{CutChoice}
use Rattle.numbers.specs.laws.Pick.{and_parts}
use Rattle.oracles.specs.LowpassOracle.{offered, assess_optim_answer}
use Rattle.oracles.specs.laws.Assess.{accepted_of}
use Rattle.oracles.specs.Verdict.{feasible, Question, Limits, Has, limits, asked, judge, judgement, is_feasible, is_accepted, no_stop_value, OptimRule}
use Rattle.oracles.specs.laws.Judge.{judge_answers}
use Rattle.oracles.specs.laws.CursorRule.{optim_rule}
use Rattle.oracles.specs.laws.OracleAfter.{is_refusal, optim_after, optim_kept, optim_again, optim_gradient_length}
use Rattle.oracles.specs.Ell.{ell_update_answer}
use Rattle.oracles.specs.laws.EllCalls.{ell_long, ell_same, ell_again, ell_answers}
use Rattle.oracles.specs.declared.ell_common.CutStrategy.{CutStrategy}
use Rattle.oracles.specs.declared.ell_common.CutStrategy.TheVariants.{BiasCut, CentralCut}
use Rattle.oracles.specs.declared.lowpass_oracle.LowpassOracle.{LowpassOracle}
use Rattle.oracles.specs.declared.lowpass_oracle.OptimVerdict.TheVariants.{Improved, Cut}
use Rattle.drivers.specs.CuttingPlaneOptim.{OptimState, plain, optim_updated, optim_cut, optim_step, optim_ended}
use Rattle.drivers.specs.CuttingPlane.{check_state, kept}
use Rattle.drivers.specs.Numbered.{optim_number}
use Rattle.drivers.specs.laws.StepSound.{Fitting, sound_fits, fits_sound, oracle_accepts, ell_accepts}
use Rattle.oracles.specs.laws.Untouched.{is_improved, untouched}

-- ---- a step

-- what a step asks: whether the centre is feasible for the offered number
abbrev pub offer_asked : ℕ → List Float → OptimState → Question
offer_asked rows table s = asked s.oracle s.gamma s.ell.ndim rows table s.buffers.xc

abbrev pub is_halted : Result CutStatus Refusal → Bool
is_halted (Ok status) = false
is_halted (Err why) = true

-- a step that is refused: by 6, on a centre that is feasible for the offered number while no stop value compares, and nothing has changed
pub record Halts (rows : ℕ) (table : List Float) (s s' : OptimState) (why : Refusal) : Type 0 where
  pub six : refusal_number why ≡ 6
  pub centre_feasible : judge (offer_asked rows table s) ≡ feasible
  pub no_value : no_stop_value (offer_asked rows table s) ≡ true
  pub same : s' ≡ s

-- a centre that is kept as the best point: it is feasible for the offered number, and the number that is left is its largest stop value
pub record Keeps (rows : ℕ) (table : List Float) (s s' : OptimState) : Type 0 where
  pub centre_feasible : judge (offer_asked rows table s) ≡ feasible
  pub found_is : s'.found ≡ true
  pub best_is : s'.best ≡ kept true s.buffers.xc s.best
  pub row : ℤ
  pub value_is : Has (offer_asked rows table s) s'.gamma row

-- a centre that is cut off, or halts: number and best point stay
pub record Passes (s s' : OptimState) : Type 0 where
  pub gamma_stays : s'.gamma ≡ s.gamma
  pub found_stays : s'.found ≡ s.found
  pub best_stays : s'.best ≡ s.best

-- a step from a state that is sound
pub record OptimStepped (rows : ℕ) (table : List Float) (s : OptimState) (r : Result CutStatus Refusal × OptimState) : Type 0 where
  pub halts : (why : Refusal) → r.0 ≡ Err why → Halts rows table s r.1 why
  pub halted_is : is_halted r.0 ≡ (is_feasible (judge (offer_asked rows table s)) && no_stop_value (offer_asked rows table s))
  pub keeps_or_passes : Keeps rows table s r.1 ⊎ Passes s r.1
  pub ndim_stays : r.1.ell.ndim ≡ s.ell.ndim
  pub asks_same : (gamma : Float) (n : ℕ) (x : List Float) → asked r.1.oracle gamma n rows table x ≡ asked s.oracle gamma n rows table x
  pub sound : check_state rows table (plain r.1) ≡ Sound

-- a judgement that counts a refusal as feasible only by 6
six_feasible : (q : Question) (t : Bool) (why : Refusal) → judgement (pick t (Ok None) (Err why)) ≡ judge q → (t ≡ true) × (judge q ≡ feasible)
unfolding pick
six_feasible q true why e = (refl, sym e)
six_feasible q false why e = absurd (judge_answers q (sym e))

-- what an oracle is asked depends on its limits, but for the one that is offered
asks_by : (o o' : LowpassOracle) (left : Float) → limits o' ≡ limits (offered o left) → (rows : ℕ) (table : List Float) (gamma : Float) (n : ℕ) (x : List Float)
    → asked o' gamma n rows table x ≡ asked o gamma n rows table x
asks_by o o' left e rows table gamma n x =
    ap (λ (l : Limits). record {
      n = n;
      rows = rows;
      limits = record { nwpass = l.nwpass; nwstop = l.nwstop; lp_sq = l.lp_sq; up_sq = l.up_sq; sp_sq = gamma };
      table = table;
      x = x;
    }) e

module _ (rows : ℕ) (table : List Float) (s : OptimState) (is_sound : check_state rows table (plain s) ≡ Sound) where
  abbrev n : ℕ
  n = s.ell.ndim

  abbrev q : Question
  q = offer_asked rows table s

  h : Fitting n rows table (plain s)
  h = sound_fits rows table (plain s) is_sound

  ok : is_accepted s.oracle n rows table s.buffers.xc s.grad ≡ true
  ok = oracle_accepts rows table (plain s) n h

  -- a step that updates
  module _ (o : LowpassOracle) (gamma : Float) (g : List Float) (found : Bool) (best : List Float) (strategy : CutStrategy) (beta : CutChoice) where
    abbrev after : Result CutStatus Refusal × OptimState
    after = optim_updated s o gamma g found best (ell_update_answer s.ell strategy g beta s.buffers)

    updates : is_accepted o n rows table s.buffers.xc g ≡ true → length g ≡ n → limits o ≡ limits (offered s.oracle s.gamma)
        → (is_feasible (judge q) && no_stop_value q) ≡ false → Keeps rows table s after.1 ⊎ Passes s after.1 → OptimStepped rows table s after
    updates again l k none either =
        let fits = ell_accepts rows table (plain s) n h g l in
        let a = accepted_of o n rows table s.buffers.xc g again in
        let updated = ap is_halted (ell_answers s.ell strategy g beta s.buffers h.dimension fits).answer_is in
        record {
          halts = λ why e. absurd (true≢false (sym (ap is_halted e) ∙ updated));
          halted_is = updated ∙ sym none;
          keeps_or_passes = either;
          ndim_stays = (ell_same s.ell strategy g beta s.buffers).0;
          asks_same = asks_by s.oracle o s.gamma k rows table;
          sound = fits_sound rows table (plain after.1) n (record {
            ndim_is = (ell_same s.ell strategy g beta s.buffers).0;
            dimension = h.dimension;
            table_long = h.table_long;
            long = ell_long n g after.1.buffers (ell_again s.ell strategy g beta s.buffers fits g l);
            grad_long = l;
            bands = a.bands;
            cursors = a.cursors;
          });
        }

  -- each way after the assessment
  cut_sound : (o : LowpassOracle) (gamma : Float) (v : (Result OptimVerdict Refusal)) (g : List Float) → is_accepted o n rows table s.buffers.xc g ≡ true → length g ≡ n
      → OptimRule q (record { oracle = o; gamma = gamma; verdict = v }) → (is_refusal v ≡ true → o ≡ s.oracle) → (is_improved v ≡ false → gamma ≡ s.gamma)
      → (is_refusal v ≡ true → g ≡ s.grad) → (is_refusal v ≡ false → limits o ≡ limits (offered s.oracle s.gamma)) → OptimStepped rows table s (optim_cut s o gamma v g)
  cut_sound o gamma (Ok (Improved beta)) g again l R same_o same_gamma same_g k =
      updates o gamma g true (kept true s.buffers.xc s.best) CentralCut beta again l (k refl) (sym R.six_is)
      (inl (record { centre_feasible = sym R.verdict_is; found_is = refl; best_is = refl; row = o.kmax; value_is = rw (R.offer refl (sym R.verdict_is)) (R.peak refl (sym R.verdict_is)) }))
  cut_sound o gamma (Ok (Cut broken)) g again l R same_o same_gamma same_g k =
      updates o gamma g s.found s.best BiasCut broken.beta again l (k refl) (sym R.six_is) (inr (record { gamma_stays = same_gamma refl; found_stays = refl; best_stays = refl }))
  cut_sound o gamma (Err why) g again l R same_o same_gamma same_g k =
      let t = six_feasible q (eqb (refusal_number why) 6) why R.verdict_is in
      let both = sym R.six_is ∙ t.0 in
      let same : (optim_cut s o gamma (Err why) g).1 ≡ s = rw (same_o refl, same_gamma refl, same_g refl) in
      record {
        halts = λ why' e. record {
          six = (let z : why' ≡ why = cc in rw z (eqb-true (refusal_number why) 6 t.0));
          centre_feasible = t.1;
          no_value = (and_parts (is_feasible (judge q)) (no_stop_value q) both).1;
          same = same;
        };
        halted_is = sym both;
        keeps_or_passes = inr (record { gamma_stays = same_gamma refl; found_stays = refl; best_stays = refl });
        ndim_stays = refl;
        asks_same = λ gamma' n' x. ap (λ (z : LowpassOracle). asked z gamma' n' rows table x) (same_o refl);
        sound = ap (λ (z : OptimState). check_state rows table (plain z)) same ∙ is_sound;
      }

  pub optim_step_sound : OptimStepped rows table s (optim_step rows table s)
  unfolding optim_step
  optim_step_sound =
      let a = assess_optim_answer s.oracle s.gamma n rows table s.buffers.xc s.grad in
      let g_long = optim_gradient_length s.oracle s.gamma n rows table s.buffers.xc s.grad ok in
      let u = untouched s.oracle s.gamma n rows table s.buffers.xc s.grad in
      cut_sound a.0.oracle a.0.gamma a.0.verdict a.1
      (optim_again s.oracle s.gamma n rows table s.buffers.xc s.grad ok s.buffers.xc a.1 h.long.xc_long g_long) g_long
      (optim_rule s.oracle s.gamma n rows table s.buffers.xc s.grad ok)
      (optim_after s.oracle s.gamma n rows table s.buffers.xc s.grad).as_it_came u.gamma_stays u.grad_stays
      (optim_kept s.oracle s.gamma n rows table s.buffers.xc s.grad)

  -- so the number of the answer that ends a run with this step, 0 or 6, is that of the refusal which the step met
  pub ended_number : (found : Bool) (k : ℕ) → optim_number (optim_ended (optim_step rows table s).0 found k) ≡ number_of (optim_step rows table s).0
  ended_number found k = go (optim_step rows table s).0 (λ why e. (optim_step_sound.halts why e).six)
    where
      go : (u : (Result CutStatus Refusal)) → ((why : Refusal) → u ≡ Err why → refusal_number why ≡ 6) → optim_number (optim_ended u found k) ≡ number_of u
      go (Ok status) f = refl
      go (Err why) f = sym (f why refl)
