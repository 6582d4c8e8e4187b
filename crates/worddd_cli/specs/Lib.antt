pub mod CommandLine
