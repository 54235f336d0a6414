-- The names that many lemmas share: packets and programs, files, tables and runs, and what a command deserves.
pub use Rattle.std.proofs.KnownBytes.{Appends-nil}
pub use Rattle.std.proofs.lemmas.List.Elements.{All-cons, All-head, All-nil, All-tail}
pub use Rattle.std.specs.Borrow.{Bor}
pub use Rattle.std.specs.Io.KnownBytes.{Appends}
pub use Rattle.std.specs.List.{All, flat_map}
pub use Rattle.std.specs.Prelude.{option_map, slice_get, slice_index}
pub use Rattle.snap_core.specs.declared.policy.Pol.{Pol}
pub use Rattle.snap_core.specs.declared.program.Program.{Program}
pub use Rattle.snap_core.specs.Arrays.{Arrays, zero_arrays}
pub use Rattle.snap_core.specs.Fields.{count}
pub use Rattle.snap_core.specs.Inputs.{IsPacket}
pub use Rattle.snap_core.specs.Listing.{HasOneListing}
pub use Rattle.snap_core.specs.Switch.{Switched}
pub use Rattle.snap_io.specs.Files.{Files, file_of}
pub use Rattle.snap_words.specs.Commands.{Command, Order, changes, compile, in_order, plain, rounds, schedule, trace}
pub use Rattle.snap_names.specs.Declarations.{core_program}
pub use Rattle.snap_report.specs.declared.fault.TraceFault.{TraceFault}
pub use Rattle.snap_report.specs.OneSwitch.{RunEnding}
pub use Rattle.snap_report.specs.Spelled.{Spelled, Stop, ended, refused, spelled}
pub use Rattle.snap_dep.specs.Ranks.{Grouping, IsGrouping}
pub use Rattle.snap_topology.specs.declared.topology.Topology.{Topology}
pub use Rattle.snap_topology.specs.Spells.{document}
pub use Rattle.snap_topology.specs.Tables.{AreRoutes, IsUnreachable, Table}
pub use Rattle.snap_rows.specs.declared.tables.Tables.{Tables}
pub use Rattle.snap_rows.specs.Form.{IsWellFormed}
pub use Rattle.snap_tables.specs.Lines.{IsRead}
pub use Rattle.snap_tables.specs.ReadBack.{IsReadBack}
pub use Rattle.snap_faithful.specs.Faithful.{Faithful, IsPacketOf}
pub use Rattle.snap_runs.specs.declared.schedule.ScheduleFault.{ScheduleFault}
pub use Rattle.snap_runs.specs.Laws.{SpelledForIsSpelled, SpelledPacketsFit}
pub use Rattle.snap_runs.specs.Plain.{IsPlainReport, spelled_for}
pub use Rattle.snap_runs.specs.Schedules.{HasScheduleReport, RefusesScheduleLine, lines_of}
pub use Rattle.snap_refinement.specs.OneSwitch.{ports_of}
pub use Rattle.snap_runs.specs.declared.change.Change.{Change}
pub use Rattle.snap_runs.specs.declared.later.Later.{Later}
pub use Rattle.snap_runs.specs.Changing.{in_force}
pub use Rattle.snap_runs.specs.ChangedFiles.{spelled_under}
pub use Rattle.snap_cli.specs.declared.refusal.Refusal.{Refusal}
pub use Rattle.snap_cli.specs.declared.refusal.Refusal.TheVariants.{Limit, NoMemory, Packets, Race, Read, ReadChange, VersionOne, Write}
pub use Rattle.snap_cli.specs.Changes.{ChangedTables, ChangesOf}
pub use Rattle.snap_cli.specs.Check.{EndsJudged}
pub use Rattle.snap_cli.specs.Deserved.{Ends, IsText, MayPrecede, MayPrecedeRead, Meets}
pub use Rattle.snap_cli.specs.Headline.{Did}
pub use Rattle.snap_cli.specs.Laws.{AnswersExactly, CompilesExactly, IsDue, IsExact, IsFailure, IsSameEnding, SpellsOneProgram, TracesExactly}
pub use Rattle.snap_cli.specs.Obs.{IsRunEnding}
pub use Rattle.snap_cli.specs.ProgramOf.{ProgramOf}
pub use Rattle.snap_cli.specs.Refusals.{Ending, status_of}
pub use Rattle.snap_cli.specs.Rounds.{RoundsTo}
pub use Rattle.snap_cli.specs.Routes.{routes_text}
pub use Rattle.snap_cli.specs.RunSteps.{ending_of_run}
pub use Rattle.snap_cli.specs.Schedule.{EndsBySchedule}
pub use Rattle.snap_cli.specs.TablesOf.{TablesOf}
pub use Rattle.snap_cli.specs.Texts.{IsTooLong}
pub use Rattle.snap_cli.specs.TopologyOf.{TopologyOf}
