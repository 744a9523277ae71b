use Rattle.std.proofs.Common.{[], ap}
use Rattle.html_values.{proofs.IconSizes.{too_few, too_many}, specs.Casts.{answer_faults}}
use Rattle.html_values.proofs.native_type.icon_size.Goals as goal

pub returns-in_default : goal.returns-in_default
returns-in_default c = record {
  made = tt;
  clean = tt;
  fault = ([], ap answer_faults (too_few c.args.items.now c.in_default.len_below));
}

pub returns-in_default-2 : goal.returns-in_default-2
returns-in_default-2 c = record {
  made = tt;
  clean = tt;
  fault = ([], ap answer_faults (too_many c.args.items.now c.in_default.len_at_least));
}
