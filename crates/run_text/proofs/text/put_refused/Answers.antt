use Rattle.std.proofs.Common.{append_assoc}
use Rattle.std.proofs.lemmas.Result.{IfOk-equal}
use Rattle.line_forms.specs.Lines.{line_text, rest_of_line}
use Rattle.run_text.proofs.text.put_refused.Goals as goal

pub returns : goal.returns
unfolding line_text rest_of_line
returns c =
    IfOk-equal _ _ _ _ c.end_line.ensures
    (rw (c.in_ok-put_next.ensures, c.as_bytes.ensures.value, c.word.ensures, c.in_ok-put_number.ensures, c.in_ok-put.ensures) (simp append_assoc))
