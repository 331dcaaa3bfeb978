-- The definitions that contracts of programs with scripts cite.
pub use Rattle.strm_script_words.specs.Fault
pub use Rattle.strm_script_words.specs.Field
pub use Rattle.strm_script_words.specs.Naming
pub use Rattle.strm_script_print.specs.Fields
pub use Rattle.strm_script_print.specs.Lines
pub use Rattle.strm_script_chart.specs.Chart
pub use Rattle.strm_script_expect.specs.Unmet
pub use Rattle.strm_script_parse.specs.RunInput
pub use Rattle.strm_script_play.specs.Played
