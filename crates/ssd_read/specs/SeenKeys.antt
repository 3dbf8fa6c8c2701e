-- What a key of the table of paths stands for.
use Rattle.std.specs.Prelude.{ℕ, List}
use Rattle.ssd_read.specs.declared.role.Role.{Role}
use Rattle.ssd_read.specs.declared.paths.Key.{Key}

-- The role and the path of a key.
abbrev pub key_pair : Key → Role × List ℕ
key_pair k = (k.kind, k.path.now)
