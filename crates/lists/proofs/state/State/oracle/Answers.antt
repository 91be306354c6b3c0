-- `lists::state::State::oracle` meets its contract.
use Rattle.std.proofs.Common.{◌≡◌, ◌<◌, ◌^◌, ◌==◌, ◌∙◌, ℤ, pos, to_z, of_z, to_z-of_z, w32}
use lib.Signed.{mag}
use Rattle.lists.specs.State.{cursor_of}
use Rattle.lists.proofs.state.State.oracle.Goals as goal

-- a signed number as the machine reads it back
plain : {z z' : ℤ} → mag z < 2 ^ 31 → z ≡ z' → to_z w32 (of_z w32 z) ≡ z'
plain h e = to_z-of_z {w = w32} (record { sfits = h }) ∙ e

pub returns : goal.returns
returns c =
    let p = plain c.signed-nwpass.type_inv c.signed-nwpass.ensures in
    let q = plain c.signed-nwstop.type_inv c.signed-nwstop.ensures in
    let r = plain c.signed-5.type_inv c.signed-5.ensures in
    λ j. record {
      more_alt = c.word.ensures j == 1;
      idx1 = plain c.signed.type_inv c.signed.ensures j;
      nwpass = p j;
      nwstop = q j;
      lp_sq = c.float.ensures j;
      up_sq = c.float-2.ensures j;
      sp_sq = c.float-3.ensures j;
      idx2 = plain c.signed-2.type_inv c.signed-2.ensures j;
      idx3 = plain c.signed-3.type_inv c.signed-3.ensures j;
      fmax = c.float-4.ensures j;
      kmax = plain c.signed-4.type_inv c.signed-4.ensures j;
      rr1 = (c.cursor.ensures ∙ (λ i. cursor_of c.args.self c.args.inputs.now 0 (pos 0) (p i))) j;
      rr2 = (c.cursor-2.ensures ∙ (λ i. cursor_of c.args.self c.args.inputs.now 1 (p i) (q i))) j;
      rr3 = (c.cursor-3.ensures ∙ (λ i. cursor_of c.args.self c.args.inputs.now 2 (q i) (r i))) j;
    }
