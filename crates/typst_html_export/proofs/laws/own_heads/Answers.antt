use Rattle.std.proofs.Common.{refl}
use Rattle.typst_html_export.proofs.CleanRoots.{clean_heads_are_written}
use Rattle.typst_html_export.proofs.OwnRoots.{information_stands_alone, own_roots_have_no_info, own_roots_have_no_nodes}
use Rattle.typst_html_export.proofs.laws.own_heads.Goals as goal

pub returns-clause-none : goal.returns-clause-none
returns-clause-none c = λ info items notes. refl

pub returns-clause-alone : goal.returns-clause-alone
returns-clause-alone c = information_stands_alone

pub returns-clause-own : goal.returns-clause-own
returns-clause-own c = own_roots_have_no_nodes

pub returns-clause-unknown : goal.returns-clause-unknown
returns-clause-unknown c = own_roots_have_no_info

pub returns-clause-clean : goal.returns-clause-clean
returns-clause-clean c = clean_heads_are_written
