use Rattle.std.proofs.Common.{map}
use Rattle.line_forms.proofs.Apart.{found_beginning}
use Rattle.trace_lines.specs.Forms.{forms, form_row}
use Rattle.trace_lines.proofs.form.form_of.Goals as goal

pub returns : goal.returns
returns c =
    rw (c.form_for.ensures, c.beginning_with.ensures, c.first_byte.ensures) (found_beginning form_row forms (map (λ word. word.now) c.args.words.now))
