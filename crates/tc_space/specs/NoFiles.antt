-- Files that are all empty.
use Rattle.std.specs.Prelude.{[]}
use Rattle.tc_base.specs.Files.{Files}

abbrev pub no_files : Files
no_files f = []
