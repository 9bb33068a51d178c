use Rattle.std.proofs.Common.{◌≡◌, map, drop}
use Rattle.line_forms.specs.Finding.{form_for}
use Rattle.line_forms.proofs.form.form_for.Given as goal

abbrev pub invariant-loop-form : goal.invariant-loop-form
invariant-loop-form g l =
    form_for g.F.LineForm.shape (drop l.form-index l.forms) (map (λ w. w.now) l.words) ≡ form_for g.F.LineForm.shape l.forms (map (λ w. w.now) l.words)
