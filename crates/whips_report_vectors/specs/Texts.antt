-- Whole reports of worked runs, line by line.
use Rattle.std.specs.Prelude.{List, [], ◌∷◌, codes}
use Rattle.whips_facts.specs.Scripts.{Bytes, Labels}

abbrev pub labels : List Bytes → List Bytes → List Bytes → List Bytes → Labels
labels sources views sessions texts = record { sources = sources; views = views; sessions = sessions; texts = texts }

-- sources A and B, view V, session s
abbrev pub two_labels : Labels
two_labels = labels (codes "A" ∷ codes "B" ∷ []) (codes "V" ∷ []) (codes "s" ∷ []) []

abbrev pub still_labels : Labels
still_labels = labels (codes "A" ∷ []) (codes "W" ∷ []) [] []

abbrev pub still_lines : List Bytes
still_lines = codes "version 0 cut A=0 rows W=1" ∷ codes "final A=0" ∷ codes "view W rows 1" ∷ codes "row [1,5]" ∷ []

abbrev pub two_lives_lines : List Bytes
two_lives_lines =
    codes "version 0 cut A=0 B=0 rows V=0"
    ∷ codes "version 1 cut A=1 B=2 rows V=1"
    ∷ codes "final A=1 B=2"
    ∷ codes "view V rows 1"
    ∷ codes "row [1,7,5]"
    ∷ []

abbrev pub reader_lines : List Bytes
reader_lines =
    codes "version 0 cut A=0 B=0 rows V=0"
    ∷ codes "version 1 cut A=0 B=1 rows V=2"
    ∷ codes "open s version 1 phase 2"
    ∷ codes "read s V version 1 phase 3 rows 2"
    ∷ codes "row [1,7,5]"
    ∷ codes "row [2,7,5]"
    ∷ codes "version 2 cut A=0 B=2 rows V=4"
    ∷ codes "read s V version 1 phase 4 rows 2"
    ∷ codes "row [1,7,5]"
    ∷ codes "row [2,7,5]"
    ∷ codes "expired s V version 1 phase 5"
    ∷ codes "version 3 cut A=0 B=3 rows V=2"
    ∷ codes "final A=0 B=3"
    ∷ codes "view V rows 2"
    ∷ codes "row [1,8,5]"
    ∷ codes "row [2,8,5]"
    ∷ []

abbrev pub idle_lines : List Bytes
idle_lines =
    codes "version 0 cut A=0 B=0 rows V=0"
    ∷ codes "skip 1 manage V"
    ∷ codes "open s version 0 phase 0"
    ∷ codes "skip 3 open s"
    ∷ codes "skip 4 fetch s 4"
    ∷ codes "final A=0 B=0"
    ∷ codes "view V rows 0"
    ∷ []

abbrev pub crowded_lines : List Bytes
crowded_lines = codes "version 0 cut A=0 B=0 rows V=2" ∷ codes "full V need 3 slots 2" ∷ []

abbrev pub shop_labels : Labels
shop_labels = labels (codes "sales" ∷ codes "stock" ∷ []) (codes "ship" ∷ codes "bill" ∷ codes "bulk" ∷ []) [] (codes "Ada" ∷ codes "Ben" ∷ codes "jam" ∷ codes "tea" ∷ [])

abbrev pub shop_lines : List Bytes
shop_lines =
    codes "version 0 cut sales=0 stock=0 rows ship=2 bill=2 bulk=1"
    ∷ codes "version 1 cut sales=1 stock=0 rows ship=3 bill=3 bulk=2"
    ∷ codes "version 2 cut sales=2 stock=0 rows ship=2 bill=2 bulk=2"
    ∷ codes "version 3 cut sales=2 stock=1 rows ship=1 bill=2 bulk=2"
    ∷ codes "version 4 cut sales=2 stock=2 rows ship=2 bill=2 bulk=2"
    ∷ codes "final sales=2 stock=2"
    ∷ codes "view ship rows 2"
    ∷ codes "row [10,\"tea\",9,3]"
    ∷ codes "row [12,\"jam\",4,6]"
    ∷ codes "view bill rows 2"
    ∷ codes "row [1,\"Ada\",10,\"tea\",420,3]"
    ∷ codes "row [1,\"Ada\",12,\"jam\",350,6]"
    ∷ codes "view bulk rows 2"
    ∷ codes "row [10,\"tea\",3]"
    ∷ codes "row [12,\"jam\",6]"
    ∷ []

abbrev pub made_labels : Labels
made_labels = labels (codes "sales" ∷ codes "stock" ∷ []) (codes "lines" ∷ codes "big" ∷ []) (codes "s1" ∷ codes "s2" ∷ []) []

abbrev pub made_summary : List Bytes
made_summary =
    codes "make 0 1"
    ∷ codes "updates 1 versions 1 rows lines=0 big=1"
    ∷ codes "reads 1 more 2 expired 0"
    ∷ codes "final sales=1 stock=0"
    ∷ []
