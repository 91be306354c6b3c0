-- `drivers::record::Fields::of` meets its contract.
use Rattle.drivers.specs.laws.Record.{fields_start}
use Rattle.drivers.proofs.record.Fields.of.Goals as goal

pub returns : goal.returns
returns c = fields_start _
