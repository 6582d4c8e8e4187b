mod Assignments
mod Reports
