-- A lemma for each table.
use Rattle.dx_flags.proofs.TablesByNames.{part_by_names, kind_by_names, fit_by_names, allowed_by_kinds}
use Rattle.dx_flags.proofs.laws.tables_go_by_names.Goals as goal

pub returns : goal.returns
returns c = record { part = part_by_names; kind = kind_by_names; fit = fit_by_names; allowed = allowed_by_kinds }
