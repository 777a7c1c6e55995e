use Rattle.std.proofs.Common.{◌≡◌, ℕ, List, take, map, string_bytes}
use Rattle.std.specs.BTreeSet.{contains_text, IsOrdered}
use Rattle.std.specs.List.{filter_map, list_any}
use Rattle.std.specs.Str.{bytes_eq}
use Rattle.std.specs.String.{string_cmp}
use Rattle.strict_top.specs.Modules.{module_in}
use Rattle.strict_top.proofs.modules.modules_among.Given as goal

-- the set has the names of the modules in the files so far
abbrev pub invariant-loop-file : goal.invariant-loop-file
invariant-loop-file l = record {
  members : (name : List ℕ) → contains_text l.names name ≡ list_any (bytes_eq name) (filter_map module_in (map string_bytes (take l.file-index l.files)));
  ordered : IsOrdered string_cmp l.names;
}
