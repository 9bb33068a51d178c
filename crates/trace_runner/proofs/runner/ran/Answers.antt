-- What was read is what the source's text says.
use Rattle.std.proofs.Common.{◌∙◌, sym, ap, subst, Ok, Err}
use Rattle.trace_text.specs.Seen.{seen, IsRead}
use Rattle.trace_text.specs.Values.{value_of}
use Rattle.trace_runner.proofs.Concluding.{says_ran, given_value, refusal_says, is_run, says_some}
use Rattle.trace_runner.proofs.runner.ran.Goals as goal

pub returns-in-Ok-read_trace-clause-says : goal.returns-in-Ok-read_trace-clause-says
returns-in-Ok-read_trace-clause-says g c =
    says_ran _ _ _ c.run_trace.result.outcome.status (seen c.in-Ok-read_trace.trace)
    (record { said = c.in-Ok.said; good = sym c.in-Ok.ensures })
    (record {
      text = c.as_slice.result.now;
      says = c.in-Ok-read_trace.ensures;
      given = given_value (g.S.Source.left c.args.source.now) c.in-Ok-read_all.bytes.items c.as_slice.result.now (Ok (seen c.in-Ok-read_trace.trace)) c.as_slice.ensures.value
          c.in-Ok-read_all.ensures.bytes c.in-Ok-read_trace.ensures;
    })
    c.run_trace.ensures.ran

pub returns-in-Err-Refused-clause-says : goal.returns-in-Err-Refused-clause-says
returns-in-Err-Refused-clause-says g c =
    refusal_says _ _ _ c.stopped-in-Err-Refused.result.outcome.status c.in-Err-Refused.line c.in-Err-Refused.cause
    (record { said = c.in-Ok.said; good = sym c.in-Ok.ensures })
    (given_value (g.S.Source.left c.args.source.now) c.in-Ok-read_all.bytes.items c.as_slice.result.now (Err (c.in-Err-Refused.line, c.in-Err-Refused.cause)) c.as_slice.ensures.value
    c.in-Ok-read_all.ensures.bytes
    (subst (λ f. IsRead (Err f) (value_of c.as_slice.result.now)) c.in-Err-Refused.field-0-is c.in-Err-Refused.ensures))
    (record {
      no_trace = c.stopped-in-Err-Refused.ensures.trace;
      untouched = record {
        choices = c.stopped-in-Err-Refused.ensures.choices;
        taken = c.stopped-in-Err-Refused.ensures.taken;
        events = ap (λ o. o.history) c.stopped-in-Err-Refused.ensures.outcome;
        batches = ap (λ d. (g.D.VkDevice.view_of d).state.journal) c.stopped-in-Err-Refused.ensures.device ∙ c.requires.new;
      };
      no_plan = ap (λ d. (g.D.VkDevice.view_of d).plan) c.stopped-in-Err-Refused.ensures.device ∙ c.requires.no_plan;
    })
    (ap (λ o. o.status) c.stopped-in-Err-Refused.ensures.outcome)

pub returns-in-Ok-read_trace-clause-unrun : goal.returns-in-Ok-read_trace-clause-unrun
returns-in-Ok-read_trace-clause-unrun g c = λ unrun. absurd (is_run _ _ _ _ c.run_trace.ensures.ran unrun)

pub returns-in-Ok-read_trace-clause-not_given : goal.returns-in-Ok-read_trace-clause-not_given
returns-in-Ok-read_trace-clause-not_given g c = λ none.
    absurd (none (record {
      good = record { said = c.in-Ok.said; good = sym c.in-Ok.ensures };
      says = says_some (g.S.Source.left c.args.source.now) (seen c.in-Ok-read_trace.trace)
          (given_value (g.S.Source.left c.args.source.now) c.in-Ok-read_all.bytes.items c.as_slice.result.now (Ok (seen c.in-Ok-read_trace.trace)) c.as_slice.ensures.value
          c.in-Ok-read_all.ensures.bytes c.in-Ok-read_trace.ensures);
    }))
