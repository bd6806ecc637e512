-- Words that stand for versions and packages (the BTS page 'control and manipulation'; the limits
-- are this project's own rule).
use Rattle.std.specs.Prelude.{ℕ, ◌&&◌, codes, if◌then◌else◌, List, take, drop, Option, Some, None, is_none}
use Rattle.std.specs.List.{list_any, before_first, after_first}
use Rattle.std.specs.Str.{bytes_eq}
use Rattle.debver.specs.Names.{name_fault}
use Rattle.debver.specs.Faults.{text_fault}
use Rattle.version_nodes.specs.Nodes.{is_slash}
use Rattle.bug_record.specs.declared.command.VersionArg.{VersionArg}

-- a version without its source, which is the bug's own package
abbrev pub bare_version : List ℕ → Option VersionArg
bare_version version = if is_none (text_fault version) then Some (record { source = None; version = version }) else None

-- a version of a source package
abbrev pub sourced_version : List ℕ → List ℕ → Option VersionArg
sourced_version source version =
    if is_none (name_fault source) && is_none (text_fault version) then Some (record { source = Some source; version = version })
    else None

-- what a version word says: a version, or `source/version`, cut at the first slash
abbrev pub version_of_word : List ℕ → Option VersionArg
version_of_word word =
    if list_any is_slash word then sourced_version (before_first is_slash word) (after_first is_slash word)
    else bare_version word

-- without one `src:` at its beginning
abbrev pub without_src : List ℕ → List ℕ
without_src word = if bytes_eq (take 4 word) (codes "src:") then drop 4 word else word

-- the package that a word names
abbrev pub package_of_word : List ℕ → Option (List ℕ)
package_of_word word = if is_none (name_fault (without_src word)) then Some (without_src word) else None
