use Rattle.std.proofs.Common.{refl}
use Rattle.snap_words.specs.Commands.{command_of}
use Rattle.snap_words.specs.Said.{bytes_of}
use Rattle.snap_cli.proofs.TopLemmas.{meets-short, meets_any}
use Rattle.snap_cli.proofs.StatusLemmas.{any-short}
use Rattle.snap_cli.proofs.top.run.Goals as goal

pub returns-in-Err-NoMemory-clause-meets : goal.returns-in-Err-NoMemory-clause-meets
returns-in-Err-NoMemory-clause-meets g c = meets-short (g.S.Shelf.files c.args.shelf.now) (bytes_of c.args.words.now) (g.O.Sink.taken c.args.out.now) _ refl

pub returns-in-Err-NoMemory-clause-statuses : goal.returns-in-Err-NoMemory-clause-statuses
returns-in-Err-NoMemory-clause-statuses g c = any-short (command_of (bytes_of c.args.words.now))

pub returns-in-Err-NoMemory-clause-demo : goal.returns-in-Err-NoMemory-clause-demo
returns-in-Err-NoMemory-clause-demo g c = λ switches is files. meets_any files (g.O.Sink.taken c.args.out.now) (command_of (bytes_of c.args.words.now)) _ refl
