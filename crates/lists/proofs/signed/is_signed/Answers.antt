-- `lists::signed::is_signed` meets its contract.
use Rattle.std.proofs.Common.{refl}
use Rattle.lists.specs.Signed.{is_signed}
use Rattle.lists.proofs.signed.is_signed.Goals as goal

pub returns : goal.returns
unfolding is_signed
returns c = refl
