use Rattle.snap_names.proofs.Addresses.{address-number}
use Rattle.snap_names.proofs.laws.addresses_have_numbers.Goals as goal

pub returns : goal.returns
returns c = address-number
