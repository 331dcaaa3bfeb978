use Rattle.strm_module.specs.Builtin.{builtin}
use Rattle.strm_head.specs.Effects.{out_of}
use Rattle.strm_c_calls.proofs.FitsLemmas.{step_fits}
use Rattle.strm_c_calls.proofs.JudgedLemmas.{costs_none_at}
use Rattle.strm_c_calls.proofs.calls.step.Goals as goal

pub returns : goal.returns
returns c =
    let out = out_of builtin c.args.stream.now c.args.end c.args.request c.apply-outcome.result.answer in
    record {
      moves = c.apply-outcome.result.moves;
      step = c.apply-outcome.ensures.step;
      memory = λ none. c.apply-outcome.ensures.memory (costs_none_at c.args.stream.now c.args.end c.args.request none);
      still = c.apply-outcome.ensures.still;
      fits = step_fits c.args.stream.now c.apply-outcome.new.self c.args.end c.args.request c.apply-outcome.result.answer c.apply-outcome.result.moves out c.apply-outcome.ensures.step;
    }
