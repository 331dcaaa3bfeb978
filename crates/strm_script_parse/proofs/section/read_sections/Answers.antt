use Rattle.std.proofs.Common.{rules}
use Rattle.std.specs.Str.Lines.{lines}
use Rattle.strm_script_parse.specs.Plan.{streams_of}
use Rattle.strm_script_parse.proofs.ReadLemmas.{are_sections, sections_text}
use Rattle.strm_script_parse.proofs.section.read_sections.Goals as goal

-- each section is what the thread that read it says

pub returns-clause-whole : goal.returns-clause-whole
returns-clause-whole g c =
    sections_text g.M.Kind.ReadKind.words (streams_of c.args.streams.now) c.in_ok-jobs.jobs.items c.in_ok-read.read.items (search rules) (λ k d below.
    let given = (c.in_ok-read.ensures.each k d below).1 in
    record { job = given.job; job_is = given.job_is; text = given.call.met.0; section = given.call.met.1 }) (λ text. text) c.all_read.result c.args.text.now c.in_ok-jobs.ensures.whole c.all_read.ensures

pub returns-clause-lines : goal.returns-clause-lines
returns-clause-lines g c =
    sections_text g.M.Kind.ReadKind.words (streams_of c.args.streams.now) c.in_ok-jobs.jobs.items c.in_ok-read.read.items (search rules) (λ k d below.
    let given = (c.in_ok-read.ensures.each k d below).1 in
    record { job = given.job; job_is = given.job_is; text = given.call.met.0; section = given.call.met.1 }) lines c.all_read.result (lines c.args.text.now) c.in_ok-jobs.ensures.lines c.all_read.ensures

pub returns-clause-sections : goal.returns-clause-sections
returns-clause-sections g c =
    are_sections g.M.Kind.ReadKind.words (streams_of c.args.streams.now) c.in_ok-jobs.jobs.items c.in_ok-read.read.items (search rules) (λ k d below.
    let given = (c.in_ok-read.ensures.each k d below).1 in
    record { job = given.job; job_is = given.job_is; text = given.call.met.0; section = given.call.met.1 }) c.all_read.result c.all_read.ensures
