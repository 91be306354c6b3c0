-- What holds between the steps of `cutting_plane_optim`: the tests of a run pass, and a point that is found is the centre of a step, feasible, with the number that is left as its largest stop value. Assumes nothing.
use Rattle.numbers.specs.Refusal.{Sound}
use Prim.Native.Nat.{ℕ, zero, suc, ◌+◌, ◌≤◌, ◌<◌}
use Rattle.std.specs.Prelude.{◌≡◌, refl, true, false, List, leb, length, take, ℤ, Float}
use Rattle.std.proofs.Common.{sym, subst, ◌∙◌, true≢false, arith, le-leb, leb-true}
use Rattle.std.proofs.Math.Path.{ap}
use Rattle.std.proofs.Math.Logic.{inl, inr}
use Rattle.std.specs.Float.Ieee.{lt}
use Rattle.oracles.specs.Verdict.{feasible, Has, asked, judge, value_in}
use Rattle.oracles.specs.laws.Judge.{judge_feasible, unbroken_feasible}
use Rattle.oracles.specs.declared.lowpass_oracle.LowpassOracle.{LowpassOracle}
use Rattle.drivers.specs.Record.{fronted}
use Rattle.drivers.specs.CuttingPlaneOptim.{OptimState, plain, optim_step}
use Rattle.drivers.specs.CuttingPlane.{check_state, kept}
use Rattle.drivers.specs.laws.StepSound.{sound_fits}
use Rattle.drivers.specs.laws.OptimSound.{offer_asked, Keeps, Passes, optim_step_sound}
use Rattle.numbers.specs.laws.Pick.{or_parts, is_hit, by_test}
use Rattle.numbers.specs.laws.Over.{front_over, length_over}

-- ---- the best point

kept_long : (xc best : List Float) → length (kept true xc best) ≡ length best
kept_long xc best =
    by_test (λ (l : List Float). length l ≡ length best) (leb (length xc) (length best)) _ _
    (λ t. length_over best 0 xc (omega (arith, leb-true (length xc) (length best) t)))
    (λ _. refl)

kept_front : (n : ℕ) (xc best : List Float) → length xc ≡ n → n ≤ length best → take n (kept true xc best) ≡ xc
kept_front n xc best l room =
    ap (λ (z : List Float). take n z) (is_hit _ (fronted xc best) best (le-leb (length xc) (length best) (omega (arith, l)))) ∙ ap (λ (k : ℕ). take k (fronted xc best)) (sym l) ∙ front_over best xc

-- x is feasible when gamma is the limit of the stop rows, and gamma is its largest stop value
pub record Tight (o : LowpassOracle) (n rows : ℕ) (table : List Float) (gamma : Float) (x : List Float) : Type 0 where
  pub point_feasible : judge (asked o gamma n rows table x) ≡ feasible
  pub row : ℤ
  pub value_is : Has (asked o gamma n rows table x) gamma row

-- what is feasible for an offered number is so for its largest stop value
tighter : (o : LowpassOracle) (offer gamma : Float) (n rows : ℕ) (table x : List Float) (row : ℤ) → judge (asked o offer n rows table x) ≡ feasible
    → Has (asked o offer n rows table x) gamma row → Tight o n rows table gamma x
tighter o offer gamma n rows table x row e h =
    let u = judge_feasible (asked o offer n rows table x) e in
    record {
      point_feasible = unbroken_feasible (asked o gamma n rows table x) (record {
        pass_rows = u.pass_rows;
        stop_rows = λ i l m. rw (h.largest i l m) (or_parts (lt offer (value_in (asked o offer n rows table x) i)) _ (u.stop_rows i l m)).1;
        middle_rows = u.middle_rows;
        sign_holds = u.sign_holds;
      });
      row = row;
      value_is = record { row = h.row; row_is = h.row_is; low = h.low; high = h.high; value_is = h.value_is; compares = h.compares; largest = h.largest };
    }

-- ---- between the steps

-- the state after so many steps
unfoldable pub after_steps : ℕ → List Float → ℕ → OptimState → OptimState
after_steps rows table zero s = s
after_steps rows table (suc i) s = (optim_step rows table (after_steps rows table i s)).1

-- after so many steps from s₀ the front of x_best is the centre that was feasible at one of them for the number offered there, and it is tight for gamma
pub record Best (rows : ℕ) (table : List Float) (s₀ : OptimState) (taken : ℕ) (gamma : Float) (best : List Float) : Type 0 where
  pub step : ℕ
  pub before : step < taken
  pub centre_is : take s₀.ell.ndim best ≡ (after_steps rows table step s₀).buffers.xc
  pub offer_feasible : judge (offer_asked rows table (after_steps rows table step s₀)) ≡ feasible
  pub tight : Tight s₀.oracle s₀.ell.ndim rows table gamma (take s₀.ell.ndim best)

-- it stays so after more steps that keep gamma and x_best
pub best_later : (rows : ℕ) (table : List Float) (s₀ : OptimState) (taken taken' : ℕ) (gamma gamma' : Float) (best best' : List Float) → taken ≤ taken' → gamma' ≡ gamma → best' ≡ best
    → Best rows table s₀ taken gamma best → Best rows table s₀ taken' gamma' best'
best_later rows table s₀ taken taken' gamma gamma' best best' l e e' b =
    subst (λ (z : List Float). Best rows table s₀ taken' gamma' z) (sym e')
    (subst (λ (z : Float). Best rows table s₀ taken' z best) (sym e)
    (record { step = b.step; before = omega (arith, l, b.before); centre_is = b.centre_is; offer_feasible = b.offer_feasible; tight = b.tight }))

module _ (rows : ℕ) (table : List Float) (s₀ : OptimState) (k₀ : ℕ) where
  abbrev n : ℕ
  n = s₀.ell.ndim

  -- x_best and gamma of s, after so many steps from s₀: a point that is found is the best, and without one nothing is written
  pub record Held (taken : ℕ) (s : OptimState) : Type 0 where
    pub best_long : length s.best ≡ length s₀.best
    pub best_is : s₀.found ≡ false → n ≤ length s₀.best → s.found ≡ true → Best rows table s₀ taken s.gamma s.best
    pub unwritten : s.found ≡ false → (s.best ≡ s₀.best) × (s.gamma ≡ s₀.gamma)

  -- s stands before step k of a run that began with s₀ at step k₀: the tests pass, and the questions stay
  pub record BeforeStep (k : ℕ) (s : OptimState) : Type 0 where
    pub taken : ℕ
    pub k_is : k ≡ k₀ + taken
    pub reached : s ≡ after_steps rows table taken s₀
    pub sound : check_state rows table (plain s) ≡ Sound
    pub ndim_is : s.ell.ndim ≡ n
    pub asks_same : (gamma : Float) (m : ℕ) (x : List Float) → asked s.oracle gamma m rows table x ≡ asked s₀.oracle gamma m rows table x
    pub held : Held taken s

  pub start : check_state rows table (plain s₀) ≡ Sound → BeforeStep k₀ s₀
  unfolding after_steps
  start sound = record {
    taken = 0;
    k_is = omega arith;
    reached = refl;
    sound = sound;
    ndim_is = refl;
    asks_same = λ gamma m x. refl;
    held = record { best_long = refl; best_is = λ f _ t. absurd (true≢false (sym t ∙ f)); unwritten = λ _. (refl, refl) };
  }

  module _ (k : ℕ) (s : OptimState) (g : BeforeStep k s) where
    -- a step that keeps its centre, and one that does not
    keeps_held : (s' : OptimState) → Keeps rows table s s' → Held (suc g.taken) s'
    keeps_held s' p = record {
      best_long = ap length p.best_is ∙ kept_long xc s.best ∙ g.held.best_long;
      best_is = λ _ room _. record {
        step = g.taken;
        before = omega arith;
        centre_is = front room ∙ ap (λ (z : OptimState). z.buffers.xc) g.reached;
        offer_feasible = ap (λ (z : OptimState). judge (offer_asked rows table z)) (sym g.reached) ∙ p.centre_feasible;
        tight = tighter s₀.oracle s.gamma s'.gamma n rows table (take n s'.best) p.row (ap judge (sym (same room)) ∙ p.centre_feasible) (subst (λ q. Has q s'.gamma p.row) (same room) p.value_is);
      };
      unwritten = λ f. absurd (true≢false (sym p.found_is ∙ f));
    }
      where
        xc : List Float
        xc = s.buffers.xc

        front : n ≤ length s₀.best → take n s'.best ≡ xc
        front room =
            ap (λ (z : List Float). take n z) p.best_is
            ∙ kept_front n xc s.best ((sound_fits rows table (plain s) g.sound).long.xc_long ∙ g.ndim_is) (omega (arith, room, g.held.best_long))

        same : n ≤ length s₀.best → offer_asked rows table s ≡ asked s₀.oracle s.gamma n rows table (take n s'.best)
        same room =
            ap (λ (m : ℕ). asked s.oracle s.gamma m rows table xc) g.ndim_is
            ∙ g.asks_same s.gamma n xc
            ∙ ap (λ (x : List Float). asked s₀.oracle s.gamma n rows table x) (sym (front room))

    passes_held : (s' : OptimState) → Passes s s' → Held (suc g.taken) s'
    passes_held s' p = record {
      best_long = ap length p.best_stays ∙ g.held.best_long;
      best_is = λ f room t. best_later rows table s₀ g.taken (suc g.taken) s.gamma s'.gamma s.best s'.best (omega arith) p.gamma_stays p.best_stays (g.held.best_is f room (sym p.found_stays ∙ t));
      unwritten = λ f. let w = g.held.unwritten (sym p.found_stays ∙ f) in (p.best_stays ∙ w.0, p.gamma_stays ∙ w.1);
    }

    pub next : BeforeStep (suc k) (optim_step rows table s).1
    unfolding after_steps
    next =
        let s' = (optim_step rows table s).1 in
        let h = optim_step_sound rows table s g.sound in
        record {
          taken = suc g.taken;
          k_is = omega (arith, g.k_is);
          reached = ap (λ (z : OptimState). (optim_step rows table z).1) g.reached;
          sound = h.sound;
          ndim_is = h.ndim_stays ∙ g.ndim_is;
          asks_same = λ gamma m x. h.asks_same gamma m x ∙ g.asks_same gamma m x;
          held = elim h.keeps_or_passes [ inl p ↦ keeps_held s' p | inr p ↦ passes_held s' p ];
        }
