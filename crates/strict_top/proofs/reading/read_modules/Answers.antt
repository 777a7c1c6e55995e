-- The names in the set are those of the modules that were listed, so their files are there, and what is read of them is the modules.
use Rattle.std.proofs.Common.{◌≡◌, ◌<◌, ◌≤◌, ℕ, List, ◌++◌, length, map, codes, string_bytes, sym, ◌∙◌, subst, String, Global}
use Rattle.std.specs.List.{AllByRecursion}
use Rattle.std.proofs.lemmas.List.{length-map}
use Rattle.std.proofs.lemmas.List.Elements.{All-from_recursion}
use Rattle.std.proofs.lemmas.Result.{IfOk-weaker}
use Rattle.outside.specs.Files.{Told, IsThere}
use Rattle.strict_top.specs.Modules.{greatest_count}
use Rattle.strict_top.specs.Steps.{IsFound, IsReadOf}
use Rattle.strict_top.proofs.FolderModules.{set_names_are, each_key, names_there}
use Rattle.strict_top.proofs.FoundModules.{found_in, too_many}
use Rattle.strict_top.proofs.reading.read_modules.Goals as goal

pub returns-then-len-gt-GREATEST_COUNT-clause-found : goal.returns-then-len-gt-GREATEST_COUNT-clause-found
returns-then-len-gt-GREATEST_COUNT-clause-found g c =
    let told : Told = g.F.Folder.told c.args.folder.now c.args.dir.now in
    let keys = c.in_ok-names.names.keys in
    let are = set_names_are told c.in_ok-files.files.items c.deref.result.now keys c.in_ok-files.ensures.names c.deref.ensures.value
    c.in_ok-names.ensures.members c.in_ok-names.ensures.ordered in
    let len : c.len.result ≡ length (map string_bytes keys) = c.len.ensures.len ∙ sym (length-map keys string_bytes) in
    too_many told (map string_bytes keys) are (subst (λ n. greatest_count < n) len c.if-len-gt-GREATEST_COUNT.true)

pub read_each-requires : goal.read_each-requires
read_each-requires g c =
    let dir = c.args.dir.now in
    let told : Told = g.F.Folder.told c.args.folder.now dir in
    let keys = c.in_ok-names.names.keys in
    let are = set_names_are told c.in_ok-files.files.items c.deref.result.now keys c.in_ok-files.ensures.names c.deref.ensures.value
    c.in_ok-names.ensures.members c.in_ok-names.ensures.ordered in
    let each = λ (t : List ℕ → Told) (key : String Global). IsThere (t dir) (string_bytes key ++ codes ".py") in
    All-from_recursion (each (g.F.Folder.told c.list.new.self)) keys
    (subst (λ (t : List ℕ → Told). AllByRecursion (each t) keys) (sym c.in_ok-files.ensures.same)
    (each_key (λ name. IsThere told (name ++ codes ".py")) keys (names_there told _ are)))

pub returns-clause-found : goal.returns-clause-found
returns-clause-found g c =
    let dir = c.args.dir.now in
    let told : Told = g.F.Folder.told c.args.folder.now dir in
    let keys = c.in_ok-names.names.keys in
    let are = set_names_are told c.in_ok-files.files.items c.deref.result.now keys c.in_ok-files.ensures.names c.deref.ensures.value
    c.in_ok-names.ensures.members c.in_ok-names.ensures.ordered in
    let len : c.len.result ≡ length (map string_bytes keys) = c.len.ensures.len ∙ sym (length-map keys string_bytes) in
    let few = subst (λ n. n ≤ greatest_count) len c.if-len-gt-GREATEST_COUNT.false in
    IfOk-weaker c.read_each.result (IsReadOf (g.F.Folder.told c.list.new.self dir) (map string_bytes keys)) (IsFound told)
    (λ found read. found_in told (map string_bytes keys) found are few
    (subst (λ (t : List ℕ → Told). IsReadOf (t dir) (map string_bytes keys) found) c.in_ok-files.ensures.same read))
    c.read_each.ensures.read
